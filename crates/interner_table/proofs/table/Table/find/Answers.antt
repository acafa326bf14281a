use Rattle.std.proofs.Common.{◌≡◌, ◌∙◌, ap, sym, subst, arith, None, rules}
use Rattle.std.specs.Map.{lookup}
use Rattle.std.specs.Str.{bytes_eq}
use Rattle.text_forms.specs.Map.{Holding}
use Rattle.interner_table.specs.Kept.{Kept, map_of}
use Rattle.interner_table.specs.Places.{IsFound}
use Rattle.interner_table.proofs.calls.HeldWords.{short-not-held}
use Rattle.interner_table.proofs.kept.Pairs.{lookup-pairs, found-is}
use Rattle.interner_table.proofs.table.Table.find.Goals as goal

pub returns-then-text-le7 : goal.returns-then-text-le7
returns-then-text-le7 g c =
    short-not-held g.S.StaticTables.tables (map_of c.args.self.now) c.is_sound.ensures c.args.text.now (let test = c.if-text-le7.true in omega (arith, test))

pub returns-in_err-at : goal.returns-in_err-at
returns-in_err-at g c =
    let none : lookup (bytes_eq c.args.text.now) c.args.self.now.pairs ≡ None =
    ap (λ (kept : Kept). lookup (bytes_eq c.args.text.now) kept.pairs) (sym c.self.view_is) ∙ lookup-pairs c.args.text.now c.self.inside.entries.entries ∙ sym c.in_err-at.ensures.value in
    search (rules, none)

pub returns : goal.returns
returns g c = subst (λ (kept : Kept). (had : Holding) × IsFound kept c.args.text.now c.in_ok-at.at had) c.self.view_is (
  c.in_ok-at.field-0-2.now,
  found-is c.self.inside.limits c.self.inside.lasts.items c.self.inside.entries.entries c.args.text.now c.in_ok-at.at c.in_ok-at.field-0-1.now c.in_ok-at.field-0-2.now
      c.in_ok-at.ensures.entry (sym c.in_ok-at.ensures.key) (sym c.in_ok-at.ensures.value),
)
