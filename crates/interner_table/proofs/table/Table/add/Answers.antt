use Rattle.std.proofs.Common.{◌≡◌, ◌∙◌, ap, sym, subst, arith, ℕ, Some, [], ◌∷◌, ◌++◌, length, ◌%◌, ◌+◌}
use Rattle.std.specs.Prelude.{slice_set, string_bytes}
use Rattle.std.specs.Bool.{nat_eq}
use Rattle.std.specs.Map.{lookup}
use Rattle.std.specs.Str.{bytes_eq}
use Rattle.std.proofs.lemmas.List.{length-map, map-append}
use Rattle.indexmap.specs.IndexSet.{insert_key}
use Rattle.text_forms.specs.Map.{Holding, with_held, with_last}
use Rattle.text_forms.specs.Tables.{entry_hash}
use Rattle.text_forms.specs.Word.{ticket_of}
use Rattle.interner_table.specs.Kept.{Kept, Pair, pairs_of, tickets_of, map_of, IsKeptTable}
use Rattle.text_forms.proofs.BucketCounts.{bucket-below, bucket-within}
use Rattle.interner_table.proofs.kept.Bytes.{bytes-fit, text-fits}
use Rattle.interner_table.proofs.kept.Pairs.{map-with-last, kept-moved}
use Rattle.interner_table.proofs.kept.Adding.{pairs-pushed, kept-added, added-map}
use Rattle.interner_table.proofs.table.Table.add.Goals as goal

pub invariant_of-self-in_err-reserve-2 : goal.invariant_of-self-in_err-reserve-2
invariant_of-self-in_err-reserve-2 g c =
    kept-moved g.S.StaticTables.tables c.self.inside.lasts.items (pairs_of c.self.inside.entries.entries) (pairs_of c.reserve.new.self.entries) c.self.inside.tickets.keys c.reserve-2.new.self.keys c.self.inside.bytes
    (ap pairs_of c.in_ok-reserve.ensures.entries) c.in_err-reserve-2.ensures.keys c.self.invariant

pub invariant_of-self-in_err-key : goal.invariant_of-self-in_err-key
invariant_of-self-in_err-key g c =
    kept-moved g.S.StaticTables.tables c.self.inside.lasts.items (pairs_of c.self.inside.entries.entries) (pairs_of c.reserve.new.self.entries) c.self.inside.tickets.keys c.reserve-2.new.self.keys c.self.inside.bytes
    (ap pairs_of c.in_ok-reserve.ensures.entries) c.in_ok-reserve-2.ensures.keys c.self.invariant

pub ticket_word-ticket-requires : goal.ticket_word-ticket-requires
ticket_word-ticket-requires g c =
    let hash = entry_hash g.S.StaticTables.tables c.args.text.now in
    let bucket : c.args.bucket ≡ hash % length c.self.inside.lasts.items = c.requires.bucket ∙ ap (λ (kept : Kept). hash % length kept.lasts) (sym c.self.view_is) in
    let below = bucket-below hash _ (length c.self.inside.lasts.items) c.self.invariant.buckets c.self.invariant.few in
    let next = c.requires.serial in
    let range = c.requires.range in
    (omega (arith, next), range, omega (arith, bucket, below))

pub invariant_of-self-2 : goal.invariant_of-self-2
invariant_of-self-2 g c =
    let t = g.S.StaticTables.tables in
    let first : Holding = record { ticket = ticket_of c.args.serial c.args.bucket; holders = 1 } in
    let is : c.new.result ≡ first = c.new.ensures ∙ ap (λ (t : ℕ). let h : Holding = record { ticket = t; holders = 1 } in h) c.ticket_word-ticket.ensures in
    let absent = ap (λ (kept : Kept). lookup (bytes_eq c.args.text.now) kept.pairs) c.self.view_is ∙ c.requires.absent in
    let pushed = pairs-pushed c.self.inside.entries c.reserve.new.self c.insert.new.self c.in_ok-key.key c.args.text.now c.new.result first is
    c.in_ok-reserve.ensures.entries c.in_ok-key.ensures.ok absent c.in-Ok.ensures.entries in
    let small = text-fits c.in_ok-key.key c.args.text.now c.in_ok-key.ensures.ok in
    let inserted = c.in-Ok-insert.ensures.keys ∙ ap (λ ks. insert_key nat_eq ks c.ticket_word-ticket.result) c.in_ok-reserve-2.ensures.keys
    ∙ ap (insert_key nat_eq c.self.inside.tickets.keys) c.ticket_word-ticket.ensures in
    subst (λ pairs. IsKeptTable t c.self.inside.buckets (slice_set c.self.inside.lasts.items c.args.bucket c.args.serial) pairs c.insert-2.new.self.keys (c.self.inside.bytes + length c.args.text.now)) (sym pushed)
    (kept-added t c.self.inside.lasts.items (pairs_of c.self.inside.entries.entries) c.self.inside.tickets.keys c.insert-2.new.self.keys c.self.inside.bytes c.args.text.now c.args.bucket c.args.serial
    c.requires.dynamic
    (c.requires.bucket ∙ ap (λ (kept : Kept). entry_hash t c.args.text.now % length kept.lasts) (sym c.self.view_is))
    c.requires.range
    (c.requires.serial ∙ ap (λ (kept : Kept). (map_of kept).last c.args.bucket + 1) (sym c.self.view_is))
    small
    inserted
    c.self.invariant)

pub overflow_add-self : goal.overflow_add-self
overflow_add-self g c =
    let fit = bytes-fit (pairs_of c.self.inside.entries.entries) c.self.invariant.short in
    let counted = c.self.invariant.counted in
    let pairs = length-map {B = Pair} c.self.inside.entries.entries (λ e. (string_bytes e.0, e.1)) in
    let few = c.len.ensures.small in
    let len = c.len.ensures.len in
    let reserved = ap length c.in_ok-reserve.ensures.entries in
    let small = text-fits c.in_ok-key.key c.args.text.now c.in_ok-key.ensures.ok in
    omega (arith, fit, counted, pairs, few, len, reserved, small)

pub returns-clause-ok : goal.returns-clause-ok
returns-clause-ok g c =
    let t = g.S.StaticTables.tables in
    let first : Holding = record { ticket = ticket_of c.args.serial c.args.bucket; holders = 1 } in
    let is : c.new.result ≡ first = c.new.ensures ∙ ap (λ (t : ℕ). let h : Holding = record { ticket = t; holders = 1 } in h) c.ticket_word-ticket.ensures in
    let within = bucket-within (entry_hash t c.args.text.now) _ (length c.self.inside.lasts.items) c.self.invariant.buckets in
    let bucket : c.args.bucket ≡ entry_hash t c.args.text.now % length c.self.inside.lasts.items =
    c.requires.bucket ∙ ap (λ (kept : Kept). entry_hash t c.args.text.now % length kept.lasts) (sym c.self.view_is) in
    map-with-last c.self.inside.lasts.items (pairs_of c.self.inside.entries.entries) (pairs_of c.insert.new.self.entries) c.args.text.now (Some first) c.args.bucket c.args.serial (omega (arith, within, bucket))
    (added-map c.self.inside.entries c.reserve.new.self c.insert.new.self c.in_ok-key.key c.args.text.now c.new.result first c.in_ok-reserve.ensures.entries c.in_ok-key.ensures.ok is c.in-Ok.ensures.updates)
    ∙ ap (λ (kept : Kept). with_last (with_held (map_of kept) c.args.text.now (Some first)) c.args.bucket c.args.serial) c.self.view_is

pub returns-clause-order : goal.returns-clause-order
returns-clause-order g c =
    let first : Holding = record { ticket = ticket_of c.args.serial c.args.bucket; holders = 1 } in
    let is : c.new.result ≡ first = c.new.ensures ∙ ap (λ (t : ℕ). let h : Holding = record { ticket = t; holders = 1 } in h) c.ticket_word-ticket.ensures in
    let absent = ap (λ (kept : Kept). lookup (bytes_eq c.args.text.now) kept.pairs) c.self.view_is ∙ c.requires.absent in
    let pushed = pairs-pushed c.self.inside.entries c.reserve.new.self c.insert.new.self c.in_ok-key.key c.args.text.now c.new.result first is
    c.in_ok-reserve.ensures.entries c.in_ok-key.ensures.ok absent c.in-Ok.ensures.entries in
    ap tickets_of pushed ∙ map-append (λ (pair : Pair). pair.1.ticket) (pairs_of c.self.inside.entries.entries) ((c.args.text.now, first) ∷ [])
    ∙ ap (λ (word : ℕ). tickets_of (pairs_of c.self.inside.entries.entries) ++ word ∷ []) (sym c.ticket_word-ticket.ensures)
    ∙ ap (λ (kept : Kept). tickets_of kept.pairs ++ c.ticket_word-ticket.result ∷ []) c.self.view_is
