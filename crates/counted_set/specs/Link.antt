-- What linking a text does to a bucket, and what interning it does.
use Rattle.std.specs.Prelude.{◌≡◌, ℕ, ◌+◌, ◌%◌, ◌^◌, ◌<◌, ◌≤◌, List, ◌∷◌, Some, Result, Ok, Err}
use Rattle.text_forms.specs.Pass.{PassReply, Outcome, found, found_full, absent}
use Rattle.text_forms.specs.Bounds.{Bounds}
use Rattle.text_forms.specs.Word.{ticket_of}
use Rattle.text_forms.specs.declared.faults.Fault.{Fault}
use Rattle.text_forms.specs.declared.faults.Fault.TheVariants.{Memory, FullCount, TicketsSpent, NotText}
use Rattle.counted_cell.specs.Counting.{CellName}
use Rattle.counted_set.specs.Chain.{Linked, Chain}
use Rattle.counted_set.specs.Counted.{IsPass}

-- what was answered, apart from the grant that an answer without a share hands back
abbrev pub answer_of : {S G : Type 0} → Result S (Fault × G) → Result S Fault
answer_of (Ok s) = Ok s
answer_of (Err refused) = Err refused.0

-- the next entry of a bucket for a text with this hash, with this limit of holders and this cell
abbrev pub next_entry : Chain → List ℕ → ℕ → ℕ → CellName → Linked
next_entry c text hash holders name = record { ticket = ticket_of (c.last + 1) (hash % 2 ^ c.bits); text = text; hash = hash; bits = c.bits; limit = holders; name = name }

-- the bucket with that entry as its head, and with the serial given
abbrev pub with_next : Chain → List ℕ → ℕ → ℕ → CellName → Chain
with_next c text hash holders name = record { bits = c.bits; entries = next_entry c text hash holders name ∷ c.entries; last = c.last + 1 }

-- Linking answers a share of the new head, which has the limit of holders. The tickets are spent exactly if the last serial
-- is at the limit of serials; any other refusal is for lack of memory. A refusal leaves the bucket.
abbrev pub IsLink : Bounds → List ℕ → ℕ → Chain → Result Linked Fault → Chain → Type 0
IsLink limits text hash c (Ok s) d = (c.last < limits.serials) × (s ≡ next_entry c text hash limits.holders s.name) × (d ≡ with_next c text hash limits.holders s.name)
IsLink limits text hash c (Err Memory) d = (c.last < limits.serials) × (d ≡ c)
IsLink limits text hash c (Err TicketsSpent) d = (limits.serials ≤ c.last) × (d ≡ c)
IsLink limits text hash c (Err FullCount) d = ⊥
IsLink limits text hash c (Err NotText) d = ⊥

-- what interning returns and leaves after a pass that finds this
abbrev pub GoesOn : Bounds → List ℕ → ℕ → Chain → Outcome Linked → Result Linked Fault → Chain → Type 0
GoesOn limits text hash c (found s) r d = (r ≡ Ok s) × (d ≡ c)
GoesOn limits text hash c found_full r d = (r ≡ Err FullCount) × (d ≡ c)
GoesOn limits text hash c absent r d = IsLink limits text hash c r d

-- interning is a pass for the text, and links if it is absent
pub record IsIntern {C : Type 0} (gives : C → Linked → PassReply Linked → C → Type 0)
    (limits : Bounds) (text : List ℕ) (hash : ℕ) (k : C) (c : Chain) (r : Result Linked Fault) (l : C) (d : Chain) : Type 0 where
  pub finds : Outcome Linked
  pub left : List Linked
  pub pass : IsPass gives (Some text) k c.entries finds l left
  pub goes_on : GoesOn limits text hash (record { bits = c.bits; entries = left; last = c.last }) finds r d
