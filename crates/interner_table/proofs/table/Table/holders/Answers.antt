use Rattle.std.proofs.Common.{◌∙◌, ap, ℕ, Some}
use Rattle.text_forms.specs.Map.{Holding}
use Rattle.interner_table.proofs.table.Table.holders.Goals as goal

pub returns : goal.returns
returns g c =
    let p = c.in_ok-at.ensures in
    let had : Holding = record { ticket = c.args.word; holders = p.holders } in
    let same = ap (λ (h : Holding). h.holders) (c.held_at-holders.ensures.pair (p.text, had) p.found.there) in
    (p.text, p.found.held ∙ ap (λ (n : ℕ). let h : Holding = record { ticket = c.args.word; holders = n } in Some h) same)
