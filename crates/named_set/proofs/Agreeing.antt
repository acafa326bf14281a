-- Of two cells that are held, one ticket is one text. The ticket is one of the text's bucket.
use Rattle.std.proofs.Common.{◌≡◌, ◌≢◌, ◌↔◌, ℕ, ◌+◌, ◌<◌, List, length, slice_index_or, Some, slice_get, ap, sym, ◌∙◌, arith}
use Rattle.std.specs.List.{AllByRecursion}
use mathlib.Core.List.{IsPrefix}
use Rattle.text_forms.specs.Tables.{Tables, bucket_of}
use Rattle.text_forms.proofs.words.Tickets.{ticket_of-same}
use Rattle.counted_cell.specs.Counting.{CellName}
use Rattle.counted_cell.specs.Cell.{Cell}
use Rattle.counted_cell.specs.CellLog.{Entry}
use Rattle.counted_cell.specs.CellEntry.{entry_of}
use Rattle.counted_cell.specs.declared.cell_log.LogSeen.{LogSeen}
use Rattle.named_set.specs.Logged.{IsLogged, IsSeen}
use Rattle.named_set.specs.Words.{IsTicketOf}
use Rattle.named_set.proofs.Rows.{prefix_get, prefix_back}

-- the later of two cells with one text shows that the earlier is gone
not_before : (number : ℕ) (all xs ys : List Entry) (gone : List CellName) (c d : Cell) (place : ℕ) (l : IsLogged number ys gone d) → IsPrefix xs all → IsPrefix ys all → slice_get xs place ≡ Some (entry_of c)
    → AllByRecursion (λ t. t ≢ c.name) gone → c.text ≡ d.text → place < l.place → ⊥
not_before number all xs ys gone c d place l p q at lives same lt =
    l.alone place (entry_of c) lt (prefix_back ys all l.place place (entry_of d) (entry_of c) q l.stands lt (prefix_get xs all place (entry_of c) p at)) same lives

-- what was seen of a cell's log shows which ticket it has
pub ticket_seen : (t : Tables) (logs : List ℕ) (s : LogSeen) (c : Cell) (text : List ℕ) (word : ℕ) → IsSeen t logs s c → text ≡ c.text → word ≡ c.label.ticket → IsTicketOf t (length logs) text word
ticket_seen t logs s c text word l same is =
    let own : IsTicketOf t (length logs) c.text c.label.ticket = record { serial = l.logged.place + 1; given = l.logged.given; is = l.logged.ticket } in
    rw (same, is) own

pub words_agree : (t : Tables) (logs : List ℕ) (s u : LogSeen) (c d : Cell) → IsSeen t logs s c → IsSeen t logs u d → (u.name ≡ s.name → (all : List Entry) × IsPrefix s.entries all × IsPrefix u.entries all)
    → AllByRecursion (λ v. v ≢ c.name) u.gone → AllByRecursion (λ v. v ≢ d.name) s.gone → (c.label.ticket ≡ d.label.ticket) ↔ (c.text ≡ d.text)
words_agree t logs s u c d l m meet lives lives' = (there, back)
  where
    bucket : Cell → ℕ
    bucket x = bucket_of t (length logs) x.text

    one_log : bucket c ≡ bucket d → u.name ≡ s.name
    one_log same = m.named ∙ (ap (λ k. slice_index_or logs k 0) (sym same) ∙ sym l.named)

    there : c.label.ticket ≡ d.label.ticket → c.text ≡ d.text
    there same =
        let both = ticket_of-same (bucket c) (bucket d) (l.logged.place + 1) (m.logged.place + 1) l.logged.given.2 m.logged.given.2 (sym l.logged.ticket ∙ (same ∙ m.logged.ticket)) in
        let all = meet (one_log both.0) in
        let place : l.logged.place ≡ m.logged.place = omega (arith, both.1) in
        let a = prefix_get s.entries all.0 l.logged.place (entry_of c) all.1 l.logged.stands in
        let b = prefix_get u.entries all.0 m.logged.place (entry_of d) all.2 m.logged.stands in
        let e : entry_of c ≡ entry_of d = cc (a, b, place) in
        ap (λ (f : Entry). f.text) e

    back : c.text ≡ d.text → c.label.ticket ≡ d.label.ticket
    back same =
        let one : bucket c ≡ bucket d = ap (bucket_of t (length logs)) same in
        let all = meet (one_log one) in
        let no : l.logged.place < m.logged.place → ⊥ = not_before (bucket d) all.0 s.entries u.entries u.gone c d l.logged.place m.logged all.1 all.2 l.logged.stands lives same in
        let none : m.logged.place < l.logged.place → ⊥ = not_before (bucket c) all.0 u.entries s.entries s.gone d c m.logged.place l.logged all.2 all.1 m.logged.stands lives' (sym same) in
        let place : l.logged.place ≡ m.logged.place = omega (arith, no, none) in
        l.logged.ticket ∙ (cc (place, one) ∙ sym m.logged.ticket)
