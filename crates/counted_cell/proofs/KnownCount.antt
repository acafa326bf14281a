-- How many shares are out of a cell that gets no more: as many as its other half says. To each number belong a claim and a receipt, and the seat
-- has one of them. Whoever has all that the seats lack knows the count (`known`), which is what a look reads (`looks_known`). So nobody
-- comes by a receipt in place of its claim while the count stays (`no_free_receipt`). And there are such seats (`begins_closed`).
-- Assumes `Logic`.
use Rattle.std.proofs.Common.{◌≡◌, ℕ, zero, suc, ◌<◌, Bool, true, false, List, [], ◌∷◌, ◌++◌, sym, refl, ◌∙◌, arith}
use mathlib.Core.Logic.{∥∥₁_map}
use seplogic.Ra.Ura.{Ura}
use base.Logic.{SProp, ent, sep, emp, guard, never, never_e, via}
use base.Fml.{Lft, Share, Fml, ftrue, fsep, flft, fdead}
use types.Logic.{Logic, sem}
use types.Kit.{‵, ◌⊛◌, given, ◌$◌, ◌∵◌, !, qed, by, move, keep, drop, split, fsplit, fjoin, fpick, fpack, learn, use1, use2, updating, await, later, rewrite, done}
use types.Keyed.{token, tickets_from, entries_take, ticket_once, ticket_issued}
use denote.RawPtr.{block_ptr}
use denote.Steps.{nothing}
use Rattle.std.specs.Sync.RawAtomic.{asks, always, word}
use Rattle.counted_cell.specs.Counting.{fact, CellName, number_out, claim, receipt_owns, spare, seats, book, Inv, counted}
use Rattle.counted_cell.proofs.Steps.{not_dead, stood, plainly, stepped}

-- what the seats from a number on lack: the claims of the shares that are out, the receipts of the others, and all receipts behind them
abbrev pub lacking : CellName → ℕ → List Bool → Fml
lacking t next [] = tickets_from t.receipts next
lacking t number (true ∷ outs) = fsep (claim t number) (lacking t (suc number) outs)
lacking t number (false ∷ outs) = fsep (receipt_owns t number) (lacking t (suc number) outs)

-- of n shares each is out
abbrev pub all_out : ℕ → List Bool
all_out zero = []
all_out (suc n) = true ∷ all_out n

one_out : (before after : List Bool) → number_out (before ++ true ∷ after) ≡ suc (number_out (before ++ false ∷ after))
one_out [] after = omega arith
one_out (out ∷ before) after = let rest = one_out before after in omega (arith, rest)

module _ {M : Type 1} {𝓤 : Ura M} (𝓛 : Logic 𝓤) (t : CellName) (closed : t.grows ≡ false) where
  open 𝓛 use {H, A}

  abbrev ⟦◌⟧ : Fml → SProp 𝓤
  ⟦ P ⟧ = sem 𝓛 P

  abbrev ◌⊢◌ : SProp 𝓤 → SProp 𝓤 → Type 1
  P ⊢ Q = ent 𝓤 P Q

  abbrev ◌∗◌ : SProp 𝓤 → SProp 𝓤 → SProp 𝓤
  P ∗ Q = sep 𝓤 P Q

  infix 26 ◌⊢◌
  infixr 35 ◌∗◌
  -- what shows a fact is still there beside it
  beside : (P Q : SProp 𝓤) (φ : Type 0) → P ⊢ guard 𝓤 φ Q → P ⊢ guard 𝓤 φ P
  beside P Q φ h = record { apply = λ a p. ∥∥₁_map (h.apply a p) (λ s. (s.0, p)) }

  -- ---- the seats and what they lack have one list
  abbrev Alike : ℕ → ℕ → Fml
  Alike n m = fact (n ≡ m)

  alike_so : {P : SProp 𝓤} (n m n' m' : ℕ) → (n ≡ m → n' ≡ m') → P ⊢ ⟦ Alike n m ⟧ → P ⊢ ⟦ Alike n' m' ⟧
  alike_so n m n' m' so h = via 𝓤 ⟦ Alike n m ⟧ h (qed 𝓛 (‵ (Alike n m) ∷ []) ∵ fpick ! (λ same. drop ! $ nothing ! $ fpack ! (n' ≡ m') (λ _. ftrue) (so same) $ done !))

  -- the seats from k on and what they lack have one list, but for numbers behind its end that nobody has a claim to
  seats_alike : (k : ℕ) (outs mine : List Bool) → ⟦ seats t k outs ⟧ ∗ ⟦ lacking t k mine ⟧ ⊢ ⟦ Alike (number_out outs) (number_out mine) ⟧
  seats_alike k [] [] = qed 𝓛 (‵ (seats t k []) ∷ ‵ (lacking t k []) ∷ []) ∵ drop ! $ drop ! $ nothing ! $ fpack ! (0 ≡ 0) (λ _. ftrue) refl $ done !
  seats_alike k [] (true ∷ mine) = qed 𝓛 (‵ (seats t k []) ∷ ‵ (lacking t k (true ∷ mine)) ∷ []) ∵ fsplit ! $ move ! (2 ∷ []) $ fsplit ! $ keep ! (0 ∷ 2 ∷ []) $
      use2 𝓛 (given (k < k) (‵ (claim t k) ⊛ ‵ (tickets_from t.claims k))) (ticket_issued 𝓛 t.claims k k) $ learn ! (λ issued. absurd (omega arith))
  seats_alike k [] (false ∷ mine) = qed 𝓛 (‵ (seats t k []) ∷ ‵ (lacking t k (false ∷ mine)) ∷ []) ∵ fsplit ! $ move ! (2 ∷ []) $ fsplit ! $ drop ! $ move ! (1 ∷ []) $
      use1 𝓛 (‵ (claim t k) ⊛ ‵ (tickets_from t.claims (suc k))) (entries_take token 𝓛 t.claims k (λ _. tt)) $ split ! $ drop ! $ move ! (0 ∷ 2 ∷ []) $
      rewrite ! 1 (λ (g : Bool). ‵ (spare t g k)) closed refl $ rewrite ! 1 (λ (g : Bool). ‵ (spare t g (suc k))) (sym closed) refl $ fjoin ! $
      by ! (alike_so (number_out []) (number_out mine) 0 (number_out (false ∷ mine)) (λ same. omega (arith, same)) (seats_alike (suc k) [] mine))
  seats_alike k (true ∷ outs) [] = qed 𝓛 (‵ (seats t k (true ∷ outs)) ∷ ‵ (lacking t k []) ∷ []) ∵ fsplit ! $ keep ! (0 ∷ 2 ∷ []) $
      use2 𝓛 (given (k < k) (‵ (receipt_owns t k) ⊛ ‵ (tickets_from t.receipts k))) (ticket_issued 𝓛 t.receipts k k) $ learn ! (λ issued. absurd (omega arith))
  seats_alike k (false ∷ outs) [] = qed 𝓛 (‵ (seats t k (false ∷ outs)) ∷ ‵ (lacking t k []) ∷ []) ∵ fsplit ! $ drop ! $ move ! (1 ∷ []) $
      use1 𝓛 (‵ (receipt_owns t k) ⊛ ‵ (tickets_from t.receipts (suc k))) (entries_take token 𝓛 t.receipts k (λ _. tt)) $ split ! $ drop ! $ move ! (1 ∷ 0 ∷ []) $
      by ! (alike_so (number_out outs) 0 (number_out (false ∷ outs)) 0 (λ same. omega (arith, same)) (seats_alike (suc k) outs []))
  seats_alike k (true ∷ outs) (true ∷ mine) = qed 𝓛 (‵ (seats t k (true ∷ outs)) ∷ ‵ (lacking t k (true ∷ mine)) ∷ []) ∵ fsplit ! $ drop ! $ move ! (1 ∷ []) $ fsplit ! $ drop ! $ move ! (1 ∷ 0 ∷ []) $
      by ! (alike_so (number_out outs) (number_out mine) (number_out (true ∷ outs)) (number_out (true ∷ mine)) (λ same. omega (arith, same)) (seats_alike (suc k) outs mine))
  seats_alike k (false ∷ outs) (false ∷ mine) = qed 𝓛 (‵ (seats t k (false ∷ outs)) ∷ ‵ (lacking t k (false ∷ mine)) ∷ []) ∵ fsplit ! $ drop ! $ move ! (1 ∷ []) $ fsplit ! $ drop ! $ move ! (1 ∷ 0 ∷ []) $
      by ! (alike_so (number_out outs) (number_out mine) (number_out (false ∷ outs)) (number_out (false ∷ mine)) (λ same. omega (arith, same)) (seats_alike (suc k) outs mine))
  seats_alike k (true ∷ outs) (false ∷ mine) = qed 𝓛 (‵ (seats t k (true ∷ outs)) ∷ ‵ (lacking t k (false ∷ mine)) ∷ []) ∵ fsplit ! $ move ! (2 ∷ []) $ fsplit ! $ keep ! (0 ∷ 2 ∷ []) $ by ! (via 𝓤 (never 𝓤) (ticket_once 𝓛 t.receipts k) (never_e 𝓤 _))
  seats_alike k (false ∷ outs) (true ∷ mine) = qed 𝓛 (‵ (seats t k (false ∷ outs)) ∷ ‵ (lacking t k (true ∷ mine)) ∷ []) ∵ fsplit ! $ move ! (2 ∷ []) $ fsplit ! $ keep ! (0 ∷ 2 ∷ []) $ by ! (via 𝓤 (never 𝓤) (ticket_once 𝓛 t.claims k) (never_e 𝓤 _))

  -- ---- so whoever has what they lack knows the count
  book_alike : (n : ℕ) (mine : List Bool) → ⟦ book t 0 n ⟧ ∗ ⟦ lacking t 0 mine ⟧ ⊢ ⟦ Alike n (number_out mine) ⟧
  book_alike n mine = qed 𝓛 (‵ (book t 0 n) ∷ ‵ (lacking t 0 mine) ∷ []) ∵ fpick ! (λ outs. fsplit ! $ fpick ! (λ is. drop ! $
      use2 𝓛 (‵ (Alike (number_out outs) (number_out mine))) (seats_alike 0 outs mine) $ fpick ! (λ same. drop ! $ nothing ! $ fpack ! (n ≡ number_out mine) (λ _. ftrue) (sym is ∙ same) $ done !)))

  pub known : (n : ℕ) (mine : List Bool) → ⟦ book t 0 n ⟧ ∗ ⟦ lacking t 0 mine ⟧ ⊢ guard 𝓤 (n ≡ number_out mine) (⟦ book t 0 n ⟧ ∗ ⟦ lacking t 0 mine ⟧)
  known n mine = beside (⟦ book t 0 n ⟧ ∗ ⟦ lacking t 0 mine ⟧) (emp 𝓤) (n ≡ number_out mine) (book_alike n mine)

  -- ---- by a look he reads it
  module _ (b o : ℕ) (s : Share) (mine : List Bool) where
    abbrev a : Lft
    a = t.value_life ∷ []

    abbrev pub Known : ℕ → Fml
    Known n = fsep (fact (n ≡ number_out mine)) (fsep (flft a s) (lacking t 0 mine))

    pub looks_known : A.inv (Inv t b o) ∗ (A.lft a s ∗ ⟦ lacking t 0 mine ⟧) ⊢ asks 𝓛 (block_ptr b o) (λ n. n) always Known
    looks_known = stepped 𝓛 b o t (λ n. n) Known (A.lft a s ∗ ⟦ lacking t 0 mine ⟧) (qed 𝓛 (‵ (fdead a) ∷ ‵ (flft a s) ∷ ‵ (lacking t 0 mine) ∷ []) ∵ keep ! (1 ∷ 0 ∷ []) $ by ! (not_dead 𝓛 b o t a s (never 𝓤)))
        (λ j n fits le. qed 𝓛 (‵ (word b o n) ∷ ‵ (counted t n) ∷ ‵ (flft a s) ∷ ‵ (lacking t 0 mine) ∷ []) ∵ move ! (1 ∷ []) $ fsplit ! $ move ! (1 ∷ 4 ∷ []) $
        use2 𝓛 (given (n ≡ number_out mine) (‵ (book t 0 n) ⊛ ‵ (lacking t 0 mine))) (known n mine) $ learn ! (λ is. split ! $
        -- [the book; what it lacks; the tally; the word; the token]
        move ! (2 ∷ 0 ∷ []) $ fjoin ! $ move ! (2 ∷ 0 ∷ []) $ use2 𝓛 (‵ (Inv t b o)) (stood 𝓛 b o t n le) $ move ! (2 ∷ 1 ∷ []) $ fjoin ! $ nothing ! $ fpack ! (n ≡ number_out mine) (λ _. ftrue) is $ fjoin ! $
        move ! (1 ∷ 0 ∷ []) $ by ! (plainly 𝓛 b o t j (Known n))))

  -- ---- so a ghost step that gave a share's receipt for its claim, beside the same count, would show what is false
  module _ (before after : List Bool) where
    abbrev Claims : List Bool
    Claims = before ++ true ∷ after

    abbrev Receives : List Bool
    Receives = before ++ false ∷ after

    pub no_free_receipt : (n : ℕ) → ⟦ book t 0 n ⟧ ∗ ⟦ lacking t 0 Claims ⟧ ⊢ H.⇛ (⟦ book t 0 n ⟧ ∗ ⟦ lacking t 0 Receives ⟧) → ⟦ book t 0 n ⟧ ∗ ⟦ lacking t 0 Claims ⟧ ⊢ H.⇛ (never 𝓤)
    no_free_receipt n step = qed 𝓛 (‵ (book t 0 n) ∷ ‵ (lacking t 0 Claims) ∷ []) ∵ updating ! $
        use2 𝓛 (given (n ≡ number_out Claims) (‵ (book t 0 n) ⊛ ‵ (lacking t 0 Claims))) (known n Claims) $ learn ! (λ claims. split ! $
        use2 𝓛 (later (‵ (book t 0 n) ⊛ ‵ (lacking t 0 Receives))) step $ await ! tt $ split ! $
        use2 𝓛 (given (n ≡ number_out Receives) (‵ (book t 0 n) ⊛ ‵ (lacking t 0 Receives))) (known n Receives) $ learn ! (λ receives. let less = one_out before after in absurd (omega (arith, claims, receives, less))))

  -- ---- and one that added a share and had what it had before, its permit with it, would show what is false
  pub no_free_share : (n : ℕ) (mine : List Bool) → ⟦ book t 0 n ⟧ ∗ ⟦ lacking t 0 mine ⟧ ⊢ H.⇛ (⟦ book t 0 (suc n) ⟧ ∗ ⟦ lacking t 0 mine ⟧) → ⟦ book t 0 n ⟧ ∗ ⟦ lacking t 0 mine ⟧ ⊢ H.⇛ (never 𝓤)
  no_free_share n mine step = qed 𝓛 (‵ (book t 0 n) ∷ ‵ (lacking t 0 mine) ∷ []) ∵ updating ! $
      use2 𝓛 (given (n ≡ number_out mine) (‵ (book t 0 n) ⊛ ‵ (lacking t 0 mine))) (known n mine) $ learn ! (λ before. split ! $
      use2 𝓛 (later (‵ (book t 0 (suc n)) ⊛ ‵ (lacking t 0 mine))) step $ await ! tt $ split ! $
      use2 𝓛 (given (suc n ≡ number_out mine) (‵ (book t 0 (suc n)) ⊛ ‵ (lacking t 0 mine))) (known (suc n) mine) $ learn ! (λ after. absurd (omega (arith, before, after))))

  -- ---- two new rows are the seats of such a cell, and what they lack: here all of n shares are out
  pub begins_closed : (n k : ℕ) → ⟦ tickets_from t.claims k ⟧ ∗ ⟦ tickets_from t.receipts k ⟧ ⊢ ⟦ seats t k (all_out n) ⟧ ∗ ⟦ lacking t k (all_out n) ⟧
  begins_closed zero k = qed 𝓛 (‵ (tickets_from t.claims k) ∷ ‵ (tickets_from t.receipts k) ∷ []) ∵ nothing ! $ rewrite ! 0 (λ (g : Bool). ‵ (spare t g k)) (sym closed) refl $ move ! (1 ∷ 0 ∷ []) $ fjoin ! $ done !
  begins_closed (suc n) k = qed 𝓛 (‵ (tickets_from t.claims k) ∷ ‵ (tickets_from t.receipts k) ∷ []) ∵ use1 𝓛 (‵ (claim t k) ⊛ ‵ (tickets_from t.claims (suc k))) (entries_take token 𝓛 t.claims k (λ _. tt)) $ split ! $ move ! (2 ∷ []) $
      use1 𝓛 (‵ (receipt_owns t k) ⊛ ‵ (tickets_from t.receipts (suc k))) (entries_take token 𝓛 t.receipts k (λ _. tt)) $ split ! $ move ! (3 ∷ 1 ∷ []) $
      use2 𝓛 (‵ (seats t (suc k) (all_out n)) ⊛ ‵ (lacking t (suc k) (all_out n))) (begins_closed n (suc k)) $ split ! $
      -- [the other seats; what they lack; the receipt; the claim]
      move ! (2 ∷ 0 ∷ []) $ fjoin ! $ move ! (2 ∷ 1 ∷ []) $ fjoin ! $ move ! (1 ∷ 0 ∷ []) $ done !
