use Rattle.thread_rows.proofs.playing.event.Goals as goal

pub returns-in-Acted : goal.returns-in-Acted
returns-in-Acted c = let r = c.requires.playing in record { playing = (r.0, r.1, c.in-Acted.ensures.goes r.0 r.1 r.2) }

pub returns-in-Micro : goal.returns-in-Micro
returns-in-Micro c = let r = c.requires.playing in record { playing = (r.0, r.1, c.in-Micro.ensures.goes r.0 r.1 r.2) }

pub returns-in-WouldWait : goal.returns-in-WouldWait
returns-in-WouldWait c =
    let r = c.requires.playing in record { playing = (r.0, r.1, (c.in-WouldWait.ensures.goes r.0 r.1 r.2).0) }
