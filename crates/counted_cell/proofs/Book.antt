-- What happens to the seats of a cell: a share more has a number of its own, and one less trades its claim for its receipt. Assumes `Logic`.
use Rattle.std.proofs.Common.{◌≡◌, ℕ, zero, suc, ◌+◌, ◌-◌, ◌<◌, ◌≤◌, Bool, true, false, List, [], ◌∷◌, sym, refl, arith}
use mathlib.Core.Logic.{dite}
use native.Mathlib.Decide.{ℕ_discrete}
use seplogic.Ra.Ura.{Ura}
use base.Logic.{SProp, ent, sep, never, never_e, via}
use base.Fml.{Fml, ftrue, fsep, fex}
use types.Logic.{Logic, sem}
use types.Kit.{‵, ◌⊛◌, given, ◌$◌, ◌∵◌, !, qed, by, move, keep, drop, split, fsplit, fjoin, fpick, fpack, learn, use1, use2, rewrite, done}
use types.Keyed.{token, tickets_from, entries_take, ticket_once, ticket_issued}
use denote.Steps.{nothing}
use Rattle.counted_cell.specs.Counting.{fact, CellName, number_out, claim, receipt_owns, permit_by, permit_owns, seat, spare, seats, seats_with, book}

module _ (t : CellName) where
  -- the claim of some number
  abbrev pub Numbered : Fml
  Numbered = fex ℕ (claim t)

  -- the share x was one of n in the book from k on, which has m without it
  abbrev pub Traded : ℕ → ℕ → ℕ → ℕ → Fml
  Traded k x n m = fsep (fact (m + 1 ≡ n)) (fsep (book t k m) (receipt_owns t x))

module _ {M : Type 1} {𝓤 : Ura M} (𝓛 : Logic 𝓤) (t : CellName) where
  abbrev ⟦◌⟧ : Fml → SProp 𝓤
  ⟦ P ⟧ = sem 𝓛 P

  abbrev ◌⊢◌ : SProp 𝓤 → SProp 𝓤 → Type 1
  P ⊢ Q = ent 𝓤 P Q

  abbrev ◌∗◌ : SProp 𝓤 → SProp 𝓤 → SProp 𝓤
  P ∗ Q = sep 𝓤 P Q

  infix 26 ◌⊢◌
  infixr 35 ◌∗◌
  packs : (k n : ℕ) (outs : List Bool) → number_out outs ≡ n → ⟦ seats t k outs ⟧ ⊢ ⟦ book t k n ⟧
  packs k n outs is = qed 𝓛 (‵ (seats t k outs) ∷ []) ∵ nothing ! $ fpack ! (number_out outs ≡ n) (λ _. ftrue) is $ fjoin ! $ fpack ! (List Bool) (seats_with t k n) outs $ done !

  -- a seat before those of a book
  before : (k m n : ℕ) (out : Bool) → ((outs : List Bool) → number_out outs ≡ m → number_out (out ∷ outs) ≡ n) → ⟦ seat t k out ⟧ ∗ ⟦ book t (suc k) m ⟧ ⊢ ⟦ book t k n ⟧
  before k m n out adds = qed 𝓛 (‵ (seat t k out) ∷ ‵ (book t (suc k) m) ∷ []) ∵ move ! (1 ∷ []) $ fpick ! (λ outs. fsplit ! $ fpick ! (λ is. drop ! $ move ! (1 ∷ 0 ∷ []) $ fjoin ! $ by ! (packs k n (out ∷ outs) (adds outs is))))

  -- what is left of the receipts to come, where the cell gets more shares, and where it doesn't
  spares : (g : Bool) (k : ℕ) → ⟦ tickets_from t.receipts k ⟧ ⊢ ⟦ spare t g k ⟧
  spares true k = qed 𝓛 (‵ (tickets_from t.receipts k) ∷ []) ∵ done !
  spares false k = qed 𝓛 (‵ (tickets_from t.receipts k) ∷ []) ∵ drop ! $ nothing ! $ done !

  -- the next number: its claim is handed out, and its receipt lies in its seat
  pub opens : (k : ℕ) → ⟦ tickets_from t.claims k ⟧ ∗ ⟦ tickets_from t.receipts k ⟧ ⊢ ⟦ claim t k ⟧ ∗ ⟦ book t k 1 ⟧
  opens k = qed 𝓛 (‵ (tickets_from t.claims k) ∷ ‵ (tickets_from t.receipts k) ∷ []) ∵ use1 𝓛 (‵ (claim t k) ⊛ ‵ (tickets_from t.claims (suc k))) (entries_take token 𝓛 t.claims k (λ _. tt)) $ split ! $ move ! (2 ∷ []) $
      use1 𝓛 (‵ (receipt_owns t k) ⊛ ‵ (tickets_from t.receipts (suc k))) (entries_take token 𝓛 t.receipts k (λ _. tt)) $ split ! $ move ! (1 ∷ []) $ use1 𝓛 (‵ (spare t t.grows (suc k))) (spares t.grows (suc k)) $
      -- [the receipts to come; the receipt; the claim, and those to come]
      move ! (3 ∷ 0 ∷ []) $ fjoin ! $ move ! (1 ∷ 0 ∷ []) $ fjoin ! $ use1 𝓛 (‵ (book t k 1)) (packs k 1 (true ∷ []) refl) $ move ! (1 ∷ []) $ done !

  -- ---- a share more, where more may come
  module _ (grows : t.grows ≡ true) where
    -- the same behind the seats that are there
    numbers : (k : ℕ) (outs : List Bool) → ⟦ seats t k outs ⟧ ⊢ ⟦ Numbered t ⟧ ∗ ⟦ book t k (suc (number_out outs)) ⟧
    numbers k [] = qed 𝓛 (‵ (seats t k []) ∷ []) ∵ fsplit ! $ rewrite ! 1 (λ (g : Bool). ‵ (spare t g k)) grows refl $ use2 𝓛 (‵ (claim t k) ⊛ ‵ (book t k 1)) (opens k) $ split ! $ fpack ! ℕ (claim t) k $ done !
    numbers k (out ∷ outs) = let m : ℕ = suc (number_out outs) in let n : ℕ = suc (number_out (out ∷ outs)) in
        qed 𝓛 (‵ (seats t k (out ∷ outs)) ∷ []) ∵ fsplit ! $ move ! (1 ∷ []) $ use1 𝓛 (‵ (Numbered t) ⊛ ‵ (book t (suc k) m)) (numbers (suc k) outs) $ split ! $ move ! (2 ∷ 1 ∷ []) $
        use2 𝓛 (‵ (book t k n)) (before k m n out (λ now_out is. omega (arith, is))) $ move ! (1 ∷ []) $ done !

    pub one_more : (n : ℕ) → ⟦ book t 0 n ⟧ ⊢ ⟦ Numbered t ⟧ ∗ ⟦ book t 0 (n + 1) ⟧
    one_more n = qed 𝓛 (‵ (book t 0 n) ∷ []) ∵ fpick ! (λ outs. fsplit ! $ fpick ! (λ is. drop ! $ use1 𝓛 (‵ (Numbered t) ⊛ ‵ (book t 0 (suc (number_out outs)))) (numbers 0 outs) $ split ! $
        let more : suc (number_out outs) ≡ n + 1 = omega (arith, is) in rewrite ! 1 (λ (k : ℕ). ‵ (book t 0 k)) more refl $ done !))

  -- ---- a share more by a permit, where the cell gets no more of itself: the receipt goes into its seat, and the claim comes out
  module _ (closed : t.grows ≡ false) where
    -- behind the seats that are there: those before the number are made as well
    takes_behind : (d k x : ℕ) → x ≡ k + d → ⟦ seats t k [] ⟧ ∗ ⟦ receipt_owns t x ⟧ ⊢ ⟦ Numbered t ⟧ ∗ ⟦ book t k 1 ⟧
    takes_behind zero k x e = let here : x ≡ k = omega (arith, e) in qed 𝓛 (‵ (seats t k []) ∷ ‵ (receipt_owns t x) ∷ []) ∵ rewrite ! 1 (λ (i : ℕ). ‵ (receipt_owns t i)) here refl $ fsplit ! $
        use1 𝓛 (‵ (claim t k) ⊛ ‵ (tickets_from t.claims (suc k))) (entries_take token 𝓛 t.claims k (λ _. tt)) $ split ! $ move ! (1 ∷ 2 ∷ []) $
        rewrite ! 1 (λ (g : Bool). ‵ (spare t g k)) closed refl $ rewrite ! 1 (λ (g : Bool). ‵ (spare t g (suc k))) (sym closed) refl $ fjoin ! $
        -- [the seats behind; the claim; the receipt]
        move ! (2 ∷ 0 ∷ []) $ fjoin ! $ use1 𝓛 (‵ (book t k 1)) (packs k 1 (true ∷ []) refl) $ move ! (1 ∷ []) $ fpack ! ℕ (claim t) k $ done !
    takes_behind (suc d) k x e = qed 𝓛 (‵ (seats t k []) ∷ ‵ (receipt_owns t x) ∷ []) ∵ fsplit ! $
        use1 𝓛 (‵ (claim t k) ⊛ ‵ (tickets_from t.claims (suc k))) (entries_take token 𝓛 t.claims k (λ _. tt)) $ split ! $ move ! (1 ∷ 2 ∷ []) $
        rewrite ! 1 (λ (g : Bool). ‵ (spare t g k)) closed refl $ rewrite ! 1 (λ (g : Bool). ‵ (spare t g (suc k))) (sym closed) refl $ fjoin ! $
        -- [the seats behind; the claim; the receipt]
        move ! (0 ∷ 2 ∷ []) $ use2 𝓛 (‵ (Numbered t) ⊛ ‵ (book t (suc k) 1)) (takes_behind d (suc k) x (omega (arith, e))) $ split ! $ move ! (2 ∷ 1 ∷ []) $
        use2 𝓛 (‵ (book t k 1)) (before k 1 1 false (λ outs is. omega (arith, is))) $ move ! (1 ∷ []) $ done !

    -- at the seat of the number
    seat_taken : (k x : ℕ) (out : Bool) (outs : List Bool) → x ≡ k → ⟦ seat t k out ⟧ ∗ ⟦ seats t (suc k) outs ⟧ ∗ ⟦ receipt_owns t x ⟧ ⊢ ⟦ Numbered t ⟧ ∗ ⟦ book t k (suc (number_out (out ∷ outs))) ⟧
    seat_taken k x true outs e = qed 𝓛 (‵ (receipt_owns t k) ∷ ‵ (seats t (suc k) outs) ∷ ‵ (receipt_owns t x) ∷ []) ∵
        rewrite ! 2 (λ (i : ℕ). ‵ (receipt_owns t i)) e refl $ keep ! (0 ∷ 2 ∷ []) $ by ! (via 𝓤 (never 𝓤) (ticket_once 𝓛 t.receipts k) (never_e 𝓤 _))
    seat_taken k x false outs e = let n : ℕ = suc (number_out (false ∷ outs)) in qed 𝓛 (‵ (claim t k) ∷ ‵ (seats t (suc k) outs) ∷ ‵ (receipt_owns t x) ∷ []) ∵
        rewrite ! 2 (λ (i : ℕ). ‵ (receipt_owns t i)) e refl $ move ! (2 ∷ 1 ∷ []) $ fjoin ! $ use1 𝓛 (‵ (book t k n)) (packs k n (true ∷ outs) (omega arith)) $
        move ! (1 ∷ []) $ fpack ! ℕ (claim t) k $ done !

    -- on the way to the seat of the number
    takes : (k x : ℕ) → k ≤ x → (outs : List Bool) → ⟦ seats t k outs ⟧ ∗ ⟦ receipt_owns t x ⟧ ⊢ ⟦ Numbered t ⟧ ∗ ⟦ book t k (suc (number_out outs)) ⟧
    takes k x le [] = takes_behind (x - k) k x (omega (arith, le))
    takes k x le (out ∷ outs) = let m : ℕ = suc (number_out outs) in let n : ℕ = suc (number_out (out ∷ outs)) in dite (ℕ_discrete x k)
        (λ e. qed 𝓛 (‵ (seats t k (out ∷ outs)) ∷ ‵ (receipt_owns t x) ∷ []) ∵ fsplit ! $ by ! (seat_taken k x out outs e))
        (λ other. qed 𝓛 (‵ (seats t k (out ∷ outs)) ∷ ‵ (receipt_owns t x) ∷ []) ∵ fsplit ! $ move ! (1 ∷ 2 ∷ []) $
        use2 𝓛 (‵ (Numbered t) ⊛ ‵ (book t (suc k) m)) (takes (suc k) x (omega arith) outs) $ split ! $ move ! (2 ∷ 1 ∷ []) $
        use2 𝓛 (‵ (book t k n)) (before k m n out (λ now_out is. omega (arith, is))) $ move ! (1 ∷ []) $ done !)

    taken : (n x : ℕ) → ⟦ book t 0 n ⟧ ∗ ⟦ receipt_owns t x ⟧ ⊢ ⟦ Numbered t ⟧ ∗ ⟦ book t 0 (n + 1) ⟧
    taken n x = qed 𝓛 (‵ (book t 0 n) ∷ ‵ (receipt_owns t x) ∷ []) ∵ fpick ! (λ outs. fsplit ! $ fpick ! (λ is. drop ! $ use2 𝓛 (‵ (Numbered t) ⊛ ‵ (book t 0 (suc (number_out outs)))) (takes 0 x (omega arith) outs) $ split ! $
        let more : suc (number_out outs) ≡ n + 1 = omega (arith, is) in rewrite ! 1 (λ (k : ℕ). ‵ (book t 0 k)) more refl $ done !))

  permitted_by : (g : Bool) → t.grows ≡ g → (n x : ℕ) → ⟦ book t 0 n ⟧ ∗ ⟦ permit_by t g x ⟧ ⊢ ⟦ Numbered t ⟧ ∗ ⟦ book t 0 (n + 1) ⟧
  permitted_by true grows n x = qed 𝓛 (‵ (book t 0 n) ∷ ‵ (permit_by t true x) ∷ []) ∵ keep ! (0 ∷ []) $ by ! (one_more grows n)
  permitted_by false closed n x = taken closed n x

  -- by its permit, in each cell
  pub permitted : (n x : ℕ) → ⟦ book t 0 n ⟧ ∗ ⟦ permit_owns t x ⟧ ⊢ ⟦ Numbered t ⟧ ∗ ⟦ book t 0 (n + 1) ⟧
  permitted n x = permitted_by t.grows refl n x

  -- ---- a share less: no share whose claim somebody has was given back
  -- at the seat of x its claim is taken in, and its receipt handed out
  seat_given : (k x : ℕ) (out : Bool) (outs : List Bool) → x ≡ k → ⟦ seat t k out ⟧ ∗ ⟦ seats t (suc k) outs ⟧ ∗ ⟦ claim t x ⟧ ⊢ ⟦ fex ℕ (Traded t k x (number_out (out ∷ outs))) ⟧
  seat_given k x true outs e = qed 𝓛 (‵ (receipt_owns t k) ∷ ‵ (seats t (suc k) outs) ∷ ‵ (claim t x) ∷ []) ∵
      rewrite ! 2 (λ (i : ℕ). ‵ (claim t i)) e refl $ rewrite ! 0 (λ (i : ℕ). ‵ (receipt_owns t i)) (sym e) refl $ move ! (2 ∷ 1 ∷ []) $ fjoin ! $ use1 𝓛 (‵ (book t k (number_out outs))) (packs k (number_out outs) (false ∷ outs) (omega arith)) $
      fjoin ! $ nothing ! $ fpack ! (number_out outs + 1 ≡ number_out (true ∷ outs)) (λ _. ftrue) (omega arith) $ fjoin ! $ fpack ! ℕ (Traded t k x (number_out (true ∷ outs))) (number_out outs) $ done !
  seat_given k x false outs e = qed 𝓛 (‵ (claim t k) ∷ ‵ (seats t (suc k) outs) ∷ ‵ (claim t x) ∷ []) ∵
      rewrite ! 2 (λ (i : ℕ). ‵ (claim t i)) e refl $ keep ! (0 ∷ 2 ∷ []) $ by ! (via 𝓤 (never 𝓤) (ticket_once 𝓛 t.claims k) (never_e 𝓤 ⟦ fex ℕ (Traded t k x (number_out (false ∷ outs))) ⟧))

  -- on the way to the seat of x
  trades : (k x : ℕ) → k ≤ x → (outs : List Bool) → ⟦ seats t k outs ⟧ ∗ ⟦ claim t x ⟧ ⊢ ⟦ fex ℕ (Traded t k x (number_out outs)) ⟧
  trades k x le [] = qed 𝓛 (‵ (seats t k []) ∷ ‵ (claim t x) ∷ []) ∵ fsplit ! $ keep ! (2 ∷ 0 ∷ []) $
      use2 𝓛 (given (x < k) (‵ (claim t x) ⊛ ‵ (tickets_from t.claims k))) (ticket_issued 𝓛 t.claims k x) $ learn ! (λ issued. absurd (omega arith))
  trades k x le (out ∷ outs) = dite (ℕ_discrete x k)
      (λ e. qed 𝓛 (‵ (seats t k (out ∷ outs)) ∷ ‵ (claim t x) ∷ []) ∵ fsplit ! $ by ! (seat_given k x out outs e))
      (λ other. qed 𝓛 (‵ (seats t k (out ∷ outs)) ∷ ‵ (claim t x) ∷ []) ∵ fsplit ! $ move ! (1 ∷ 2 ∷ []) $
      use2 𝓛 (‵ (fex ℕ (Traded t (suc k) x (number_out outs)))) (trades (suc k) x (omega arith) outs) $ fpick ! (λ m. fsplit ! $ fpick ! (λ is. drop ! $ fsplit ! $ let n : ℕ = number_out (out ∷ outs) in
      -- [the book; the receipt; the seat]
      let c : ℕ = number_out (out ∷ []) in move ! (2 ∷ 0 ∷ []) $ use2 𝓛 (‵ (book t k (c + m))) (before k m (c + m) out (λ now_out same. omega (arith, same))) $
      fjoin ! $ nothing ! $ fpack ! ((c + m) + 1 ≡ n) (λ _. ftrue) (omega (arith, is)) $ fjoin ! $ fpack ! ℕ (Traded t k x n) (c + m) $ done !)))

  pub one_less : (n x : ℕ) → ⟦ book t 0 n ⟧ ∗ ⟦ claim t x ⟧ ⊢ ⟦ fex ℕ (Traded t 0 x n) ⟧
  one_less n x = qed 𝓛 (‵ (book t 0 n) ∷ ‵ (claim t x) ∷ []) ∵ fpick ! (λ outs. fsplit ! $ fpick ! (λ is. drop ! $ use2 𝓛 (‵ (fex ℕ (Traded t 0 x (number_out outs)))) (trades 0 x (omega arith) outs) $
      rewrite ! 0 (λ (k : ℕ). ‵ (fex ℕ (Traded t 0 x k))) is refl $ done !))
