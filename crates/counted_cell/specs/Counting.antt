-- The count of a cell's shares: what holds between any two steps on it, and what the owner and each share own. A cell has two lifetimes. While the
-- first lives its value may be read: the owner and each share has one part in 2 ^ 64 of its token. While the second lives there is a share: each
-- share has one part in 2 ^ 64 of that token too. Each share that a cell ever gets has a number, from 0 up, and no two have the same. To each number
-- belong a claim and a receipt, and there is one of each. The share has the claim, and the count has a seat for each number: while the share is out,
-- the receipt is there. A subtraction puts the share's claim into its seat, and hands out its receipt. So as many seats have a receipt as shares are
-- out, and whoever has a receipt knows that the share of its number was taken off the count. Whether a cell gets more shares is part of its name,
-- which nothing reads when a program runs. All cells that are made do. But whoever may add shares could, in these books alone, add one, take the
-- receipt of their own and forget the new one, without a step on the word. So what a subtraction does is stated for cells that get no more shares as
-- well. There, there are as many receipts as shares, and the only way to get one is to take one share off (proofs/KnownCount.antt).
use Rattle.std.specs.Prelude.{◌≡◌, ◌⊎◌, refl, ℕ, suc, ◌+◌, ◌≤◌, Bool, true, false, cond, ◌==◌, List, [], ◌∷◌, Option, Some, None}
use Rattle.std.specs.Coded.{Coded, code_by, coded×, coded_ℕ, coded_bool}
use base.Fml.{Lft, Fml, ftrue, ffalse, fsep, fex, fall, flft, fdead, finv}
use prog.Memory.{up, align}
use types.RcWeak.{part, rest}
use types.Keyed.{ticket, tickets_from}
use denote.RattleType.{RattleType}
use denote.Memory.{lone}
use denote.RawPtr.{Ptr, block_ptr, null_ptr}
use denote.Sharing.{said, beside, one, held, always, nothing}
use denote.Struct.Lending.{lent_at}
use Rattle.std.specs.Sync.RawAtomic.{word}

abbrev pub fact : Type 0 → Fml
fact φ = fex φ (λ _. ftrue)

-- a cell's name, which no other cell has: its two lifetimes, the row of its claims and that of its receipts, how many shares there may
-- be at a time, and whether it gets more of them
pub record CellName : Type 0 where
  pub value_life : ℕ
  pub share_life : ℕ
  pub claims : ℕ
  pub receipts : ℕ
  pub limit : ℕ
  pub grows : Bool

-- names are coded as plain data
abbrev pub cell_name_coded : Coded CellName
cell_name_coded = code_by (ℕ × (ℕ × (ℕ × (ℕ × (ℕ × Bool))))) (coded× coded_ℕ (coded× coded_ℕ (coded× coded_ℕ (coded× coded_ℕ (coded× coded_ℕ coded_bool)))))
    (λ t. (t.value_life, (t.share_life, (t.claims, (t.receipts, (t.limit, t.grows))))))
    (λ p. record { value_life = p.0; share_life = p.1.0; claims = p.1.1.0; receipts = p.1.1.1.0; limit = p.1.1.1.1.0; grows = p.1.1.1.1.1 }) (λ _. refl)

-- a count of the shares of a cell
pub record Count : Type 0 where
  pub name : CellName
  pub count : ℕ

-- what giving a share back shows: its cell and its number, and the count that it left
pub record Giving : Type 0 where
  pub name : CellName
  pub number : ℕ
  pub count : ℕ

-- the cell's name if the count is 0
abbrev pub if_none_left : Giving → Option CellName
if_none_left g = cond (g.count == 0) (Some g.name) None

-- how many shares are out, if a list says for each number whether its share is
abbrev pub number_out : List Bool → ℕ
number_out [] = 0
number_out (out ∷ outs) = cond out 1 0 + number_out outs

-- what a reference to a cell may do: nothing; read, and end the cell; read, and count as a share; have the cell to itself; or add one share, by the
-- permit that it holds
pub data Right : Type 0 where
  no_right : Right
  owner_right : Right
  share_right : Right
  sole_right : Right
  permit_right : Right

abbrev right_number : Right → ℕ
right_number no_right = 0
right_number owner_right = 1
right_number share_right = 2
right_number sole_right = 3
right_number permit_right = 4

abbrev right_of : ℕ → Right
right_of n = cond (n == 0) no_right (cond (n == 1) owner_right (cond (n == 2) share_right (cond (n == 3) sole_right permit_right)))

pub right_of-right_number : (r : Right) → right_of (right_number r) ≡ r
right_of-right_number no_right = refl
right_of-right_number owner_right = refl
right_of-right_number share_right = refl
right_of-right_number sole_right = refl
right_of-right_number permit_right = refl

-- rights are coded as numbers
abbrev pub right_coded : Coded Right
right_coded = code_by ℕ coded_ℕ right_number right_of right_of-right_number

-- the value may be read, and the count looked at
abbrev pub CanRead : Right → Type 0
CanRead r = (r ≡ owner_right) ⊎ (r ≡ share_right)

-- where the value is in the block
abbrev pub offset : RattleType → ℕ
offset R = up (align (lone R.mir)) 8

module _ (t : CellName) where
  -- no share is left, and none ever will be
  abbrev pub none_left : Fml
  none_left = fdead (t.share_life ∷ [])

  -- n shares are out, or none is left
  abbrev pub shares_out : ℕ → Bool → Fml
  shares_out n true = rest 64 t.share_life n
  shares_out n false = fsep (fact (n ≡ 0)) none_left

  -- the owner and n shares are out, by their parts of the two lifetimes
  abbrev pub tally : ℕ → Fml
  tally n = fsep (rest 64 t.value_life (n + 1)) (fex Bool (shares_out n))

  -- the claim of a number, of which there is one, as of its receipt
  abbrev pub claim : ℕ → Fml
  claim number = ticket t.claims number

  -- the receipt of a number: whoever has it knows that the share of this number was taken off the count
  abbrev pub receipt_owns : ℕ → Fml
  receipt_owns number = ticket t.receipts number

  -- What an addition spends. If the cell gets more shares, it is nothing. Otherwise it is the receipt of some number: it is in no seat, so its seat
  -- has the claim, or the number is yet to come. The addition puts the receipt in and takes the claim out, like a subtraction in reverse. So the only
  -- way to get it again is to give a share back.
  abbrev pub permit_by : Bool → ℕ → Fml
  permit_by true number = ftrue
  permit_by false number = receipt_owns number

  -- what an addition to this cell spends
  abbrev pub permit_owns : ℕ → Fml
  permit_owns number = permit_by t.grows number

  -- what a share has besides what it reads
  abbrev pub share_owns : ℕ → Fml
  share_owns number = fsep (part 64 t.share_life) (claim number)

  -- what is in the seat of a number: the receipt while the share is out, and the claim once it was given back
  abbrev pub seat : ℕ → Bool → Fml
  seat number true = receipt_owns number
  seat number false = claim number

  -- the receipts of the numbers to come, if the cell gets more shares
  abbrev pub spare : Bool → ℕ → Fml
  spare true next = tickets_from t.receipts next
  spare false next = ftrue

  -- the seats of the numbers from this one on; after them the claims and the receipts of the numbers to come
  abbrev pub seats : ℕ → List Bool → Fml
  seats next [] = fsep (tickets_from t.claims next) (spare t.grows next)
  seats number (out ∷ outs) = fsep (seat number out) (seats (suc number) outs)

  abbrev pub seats_with : ℕ → ℕ → List Bool → Fml
  seats_with number n outs = fsep (fact (number_out outs ≡ n)) (seats number outs)

  -- the seats of the numbers from this one on, of which n have a receipt
  abbrev pub book : ℕ → ℕ → Fml
  book number n = fex (List Bool) (seats_with number n)

  -- the owner and n shares are out, and the seats say so
  abbrev pub counted : ℕ → Fml
  counted n = fsep (tally n) (book 0 n)

  module _ (b o : ℕ) where
    -- the word is the number of the shares, and at most the limit
    abbrev pub standing : ℕ → Fml
    standing n = fsep (word b o n) (fsep (fact (n ≤ t.limit)) (counted n))

    -- or the owner has ended
    abbrev pub phase : Bool → Fml
    phase true = fex ℕ standing
    phase false = fdead (t.value_life ∷ [])

    -- what holds between any two steps
    abbrev pub Inv : Fml
    Inv = fex Bool phase

module _ (R : RattleType) (b o : ℕ) (x : R.Denot) (t : CellName) where
  abbrev pub shown : Lft → Fml
  shown = lent_at R (block_ptr b (o + offset R)) x

  -- what the owner and each share have
  abbrev pub reads : Fml
  reads = fsep (part 64 t.value_life) (fsep (finv (Inv t b (o + 0))) (shown (t.value_life ∷ [])))

  -- a share's number says which it is
  abbrev pub right_to : ℕ → Right → Fml
  right_to number no_right = ftrue
  right_to number owner_right = reads
  right_to number share_right = fsep reads (share_owns t number)
  right_to number sole_right = fsep (word b (o + 0) 0) (fdead (t.value_life ∷ []))
  right_to number permit_right = permit_owns t number

  -- what a `&` to one of them has
  abbrev pub seen_by : Lft → Fml
  seen_by = beside (one (λ q. flft (t.value_life ∷ []) q)) (beside (always (Inv t b (o + 0))) (held (t.value_life ∷ []) shown))

  abbrev pub seen_with : Right → Lft → Fml
  seen_with no_right = nothing
  seen_with owner_right = seen_by
  seen_with share_right = beside seen_by (one (λ q. flft (t.share_life ∷ []) q))
  seen_with sole_right = nothing
  seen_with permit_right = nothing

-- what a reference with this right has at p
abbrev pub ref_owns : (R : RattleType) → Ptr → R.Denot → CellName → ℕ → Right → Fml
ref_owns R (block_ptr b o) x t number right = right_to R b o x t number right
ref_owns R null_ptr x t number right = ffalse

-- what a `&` to a reference with this right has
abbrev pub ref_shares : (R : RattleType) → Ptr → R.Denot → CellName → Right → Lft → Fml
ref_shares R (block_ptr b o) x t right = seen_with R b o x t right
ref_shares R null_ptr x t right = said ffalse

-- what a look that found n shows
abbrev pub reading_owns : CellName → ℕ → Fml
reading_owns t n = fall (n ≡ 0) (λ _. none_left t)
