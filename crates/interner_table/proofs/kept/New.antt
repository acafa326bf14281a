-- A new table.
use Rattle.std.proofs.Common.{◌≡◌, ◌∙◌, ap, sym, subst, refl, ℕ, ◌^◌, ◌≤◌, zero, suc, List, [], length, replicate, None}
use Rattle.std.specs.Prelude.{slice_index, String}
use Rattle.std.specs.HashMap.{HashMap}
use Rattle.std.proofs.lemmas.List.{length-replicate}
use Rattle.std.proofs.lemmas.Option.{none-some}
use Rattle.text_forms.specs.Layout.{most_buckets}
use Rattle.text_forms.specs.Map.{Holding, empty_map}
use Rattle.text_forms.specs.Tables.{Tables}
use Rattle.interner_table.specs.Kept.{pairs_of, IsKeptTable}
use Rattle.interner_table.proofs.kept.Pairs.{shows}

zeros-at : (n i : ℕ) → slice_index (replicate n zero) i ≡ zero
zeros-at zero i = refl
zeros-at (suc n) zero = refl
zeros-at (suc n) (suc i) = zeros-at n i

module _ {Y S : Type 0} (t : Tables) (bits : ℕ) (lasts : List ℕ) (m : HashMap (String Y) Holding S) (tickets : List ℕ) (few : 2 ^ bits ≤ most_buckets) (zeros : lasts ≡ replicate (2 ^ bits) zero) (none : m.entries ≡ []) (no_ticket : tickets ≡ []) where
  pub new-kept : IsKeptTable t bits lasts (pairs_of m.entries) tickets 0
  new-kept = subst (λ (es : List (String Y × Holding)). IsKeptTable t bits lasts (pairs_of es) tickets 0) (sym none) (record {
    buckets = ap length zeros ∙ length-replicate (2 ^ bits) zero;
    few = subst (λ (n : ℕ). n ≤ most_buckets) (sym (ap length zeros ∙ length-replicate (2 ^ bits) zero)) few;
    given = λ at pair h. absurd (none-some _ h);
    short = λ at pair h. absurd (none-some _ h);
    index = no_ticket;
    counted = refl;
  })

module _ {Y S : Type 0} (bits : ℕ) (lasts : List ℕ) (m : HashMap (String Y) Holding S) (zeros : lasts ≡ replicate (2 ^ bits) zero) (none : m.entries ≡ []) where
  pub new-map : shows lasts (pairs_of m.entries) ≡ empty_map (2 ^ bits)
  new-map = ap (λ (es : List (String Y × Holding)). shows lasts (pairs_of es)) none
      ∙ (λ i. record { buckets = (ap length zeros ∙ length-replicate (2 ^ bits) zero) i; held = λ text. None; last = λ bucket. (ap (λ (ls : List ℕ). slice_index ls bucket) zeros ∙ zeros-at (2 ^ bits) bucket) i })
