-- The listing of the workload.
--
--     class Node { int v; Node next; }
--
--     class Adder extends Thread {
--         int t;
--         int n;
--         public void run() {
--             for (int i = 0; i < n; i++) {
--                 Node d = new Node();
--                 d.v = i * 4 + t;
--                 d.next = Work.table[t];
--                 Work.table[t] = d;
--             }
--         }
--     }
--
--     class Work { @DurableRoot static Node[] table; .. }
--
-- `main` makes the table of four lists, starts four Adders with t from 0 to 3 and n nodes each, joins them in order, walks the
-- lists from 0 to 3, counting the nodes in an int and adding their values in a long, and prints the count and the sum.
use Rattle.std.specs.Prelude.{ℕ, List, ◌++◌, codes, decimal}

-- up to the number of nodes
abbrev pub before : List ℕ
before =
    codes ".class Node\n"
    ++ codes ".super java/lang/Object\n"
    ++ codes ".field v I\n"
    ++ codes ".field next LNode;\n"
    ++ codes ".method <init> ()V 1 1\naload_0\ninvokespecial java/lang/Object <init> ()V\nreturn\n"
    ++ codes ".end\n"
    ++ codes ".class Adder\n"
    ++ codes ".super java/lang/Thread\n"
    ++ codes ".field t I\n"
    ++ codes ".field n I\n"
    ++ codes ".method <init> ()V 1 1\naload_0\ninvokespecial java/lang/Thread <init> ()V\nreturn\n"
    ++ codes ".end\n"
    ++ codes ".method run ()V 3 3\niconst_0\nistore_1\nADD:\niload_1\naload_0\ngetfield Adder n I\n"
    ++ codes "if_icmpge ADDED\nnew Node\ndup\ninvokespecial Node <init> ()V\nastore_2\naload_2\niload_1\n"
    ++ codes "iconst_4\nimul\naload_0\ngetfield Adder t I\niadd\nputfield Node v I\naload_2\n"
    ++ codes "getstatic Work table [LNode;\naload_0\ngetfield Adder t I\naaload\nputfield Node next LNode;\n"
    ++ codes "getstatic Work table [LNode;\naload_0\ngetfield Adder t I\naload_2\naastore\niinc 1 1\ngoto ADD\n"
    ++ codes "ADDED:\nreturn\n"
    ++ codes ".end\n"
    ++ codes ".class Work\n"
    ++ codes ".super java/lang/Object\n"
    ++ codes ".field table [LNode; static root\n"
    ++ codes ".method main ([Ljava/lang/String;)V 4 7 static\niconst_4\nanewarray Node\n"
    ++ codes "putstatic Work table [LNode;\niconst_4\nanewarray Adder\nastore_1\niconst_0\nistore_2\nSTART:\n"
    ++ codes "iload_2\niconst_4\nif_icmpge STARTED\nnew Adder\ndup\ninvokespecial Adder <init> ()V\nastore_3\n"
    ++ codes "aload_3\niload_2\nputfield Adder t I\naload_3\nsipush "

-- and from there on
abbrev pub behind : List ℕ
behind =
    codes "\nputfield Adder n I\naload_1\niload_2\naload_3\naastore\naload_3\ninvokevirtual Adder start ()V\n"
    ++ codes "iinc 2 1\ngoto START\nSTARTED:\niconst_0\nistore_2\nJOIN:\niload_2\niconst_4\nif_icmpge JOINED\n"
    ++ codes "aload_1\niload_2\naaload\ninvokevirtual Adder join ()V\niinc 2 1\ngoto JOIN\nJOINED:\niconst_0\n"
    ++ codes "istore 4\nlconst_0\nlstore 5\niconst_0\nistore_2\nLIST:\niload_2\niconst_4\nif_icmpge LISTED\n"
    ++ codes "getstatic Work table [LNode;\niload_2\naaload\nastore_3\nWALK:\naload_3\nifnull WALKED\niinc 4 1\n"
    ++ codes "lload 5\naload_3\ngetfield Node v I\ni2l\nladd\nlstore 5\naload_3\ngetfield Node next LNode;\n"
    ++ codes "astore_3\ngoto WALK\nWALKED:\niinc 2 1\ngoto LIST\nLISTED:\n"
    ++ codes "getstatic java/lang/System out Ljava/io/PrintStream;\niload 4\n"
    ++ codes "invokevirtual java/io/PrintStream println (I)V\n"
    ++ codes "getstatic java/lang/System out Ljava/io/PrintStream;\nlload 5\n"
    ++ codes "invokevirtual java/io/PrintStream println (J)V\nreturn\n"
    ++ codes ".end\n"

-- the listing with so many nodes a thread
abbrev pub work_listing : ℕ → List ℕ
work_listing count = before ++ decimal count ++ behind
