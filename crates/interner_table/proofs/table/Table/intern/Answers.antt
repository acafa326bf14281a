use Rattle.interner_table.specs.Kept.{map_of}
use Rattle.interner_table.proofs.calls.Found.{still-held, still-owned}
use Rattle.interner_table.proofs.calls.Outcomes.{interned-both, interned-done, interned-own, interned-same}
use Rattle.interner_table.proofs.table.Table.intern.Goals as goal

pub returns : goal.returns
returns g c =
    let t = g.S.StaticTables.tables in
    let old = c.args.self.now in
    let text = c.args.text.now in
    let new = c.intern_text-outcome.new.self in
    let reply = c.intern_text-outcome.result in
    let called = c.intern_text-outcome.ensures in
    let done = interned-done t old text new c.utf8.text called.sound c.is_sound.ensures reply called.limits called.interns called.order in
    record {
      interned = done;
      own = interned-own t old text new c.utf8.text reply done;
      same = interned-same t old text new c.utf8.text reply done;
      owned = still-owned t (map_of old) (map_of new) done.keeps;
      still = still-held t (map_of old) (map_of new) done.keeps;
      both = interned-both t old text new c.utf8.text reply done called.sound;
      fault = called.fault;
      err = called.err;
    }
