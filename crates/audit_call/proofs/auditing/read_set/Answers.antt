use Rattle.audit_call.proofs.Ending.{left_then, links_then, refused_then, whole_then}
use Rattle.audit_call.proofs.auditing.read_set.Goals as goal

pub returns-clause-links : goal.returns-clause-links
returns-clause-links g c =
    links_then (g.C.ClassSource.left c.args.source.now) c.in_ok-classes.classes c.in_ok-classes.ensures.classes
    (g.C.ClassSource.left c.read_files.new.source) c.in_ok-classes.ensures.whole c.link.result c.link.ensures.set c.link.ensures.links

pub returns-clause-refused : goal.returns-clause-refused
returns-clause-refused g c =
    refused_then (g.C.ClassSource.left c.args.source.now) c.in_ok-classes.classes c.in_ok-classes.ensures.classes
    (g.C.ClassSource.left c.read_files.new.source) c.in_ok-classes.ensures.whole c.link.result c.link.ensures.refused

pub returns-clause-whole : goal.returns-clause-whole
returns-clause-whole g c =
    whole_then (g.C.ClassSource.left c.args.source.now) c.in_ok-classes.classes c.in_ok-classes.ensures.classes
    (g.C.ClassSource.left c.read_files.new.source) c.in_ok-classes.ensures.whole c.link.result

pub returns-clause-left : goal.returns-clause-left
returns-clause-left g c =
    left_then (g.C.ClassSource.left c.args.source.now) c.in_ok-classes.classes c.in_ok-classes.ensures.classes
    (g.C.ClassSource.left c.read_files.new.source) c.in_ok-classes.ensures.whole c.link.result c.link.ensures.refused
