-- What is under the lock keeps what it states.
use Rattle.std.proofs.Common.{◌≡◌, ◌≢◌, ◌⊎◌, inl, inr, ℕ, zero, suc, ◌+◌, ◌<◌, List, [], ◌∷◌, ◌++◌, length, slice_index_or, Some, slice_get, refl, ap, sym, ◌∙◌, arith}
use Rattle.std.specs.List.{AllByRecursion, Contains}
use Rattle.std.specs.List.Sorted.{IsPermutation}
use Rattle.std.proofs.lemmas.List.Elements.{All-from_recursion, recursion_from_All, Contains-append_right}
use Rattle.std.proofs.lemmas.List.Sorted.{All-permutation, Contains-permutation, IsPermutation-sym}
use Rattle.std.proofs.lemmas.Option.{slice_get_read, slice_get_within, get_or_from_slice_get}
use mathlib.Core.List.{IsPrefix}
use Rattle.text_forms.specs.Tables.{Tables, bucket_of, entry_hash}
use Rattle.text_forms.specs.Word.{IsTicket, ticket_of}
use Rattle.counted_cell.specs.Counting.{CellName}
use Rattle.counted_cell.specs.Cell.{Cell}
use Rattle.counted_cell.specs.CellLog.{Entry}
use Rattle.counted_cell.specs.CellEntry.{entry_of}
use Rattle.counted_cell.specs.declared.cell_log.LogSeen.{LogSeen}
use Rattle.named_set.specs.Logged.{IsGone, IsLogged, IsLinked, IsKept, IsSeen, IsOf, LinksNoMore}
use Rattle.named_set.specs.Places.{HaveHash, IsNew}
use Rattle.named_set.proofs.Rows.{prefix_get, prefix_back, get_snoc, snoc_get, each_more, each_at}

-- a cell that stands in a row stands in a longer one
logged_longer : (number : ℕ) (es : List Entry) (gone : List CellName) (e : Entry) (c : Cell) → IsLogged number es gone c → IsLogged number (es ++ e ∷ []) gone c
logged_longer number es gone e c l = record {
  place = l.place;
  given = l.given;
  ticket = l.ticket;
  stands = prefix_get es (es ++ e ∷ []) l.place (entry_of c) (e ∷ [], refl) l.stands;
  alone = λ i f lt at. l.alone i f lt (prefix_back es (es ++ e ∷ []) l.place i (entry_of c) f (e ∷ [], refl) l.stands lt at);
}

logged_buried : (number : ℕ) (es : List Entry) (gone : List CellName) (t : CellName) (c : Cell) → IsLogged number es gone c → IsLogged number es (t ∷ gone) c
logged_buried number es gone t c l = record { place = l.place; given = l.given; ticket = l.ticket; stands = l.stands; alone = λ i f lt at same all. l.alone i f lt at same all.1 }

-- in another order
pub each_permuted : {A : Type 0} (P : A → Type 0) (xs ys : List A) → IsPermutation xs ys → AllByRecursion P xs → AllByRecursion P ys
each_permuted P xs ys p all = recursion_from_All P ys (All-permutation P xs ys p (All-from_recursion P xs all))

pub stands : {A : Type 0} (xs : List A) (x : A) → Contains xs x → (k : ℕ) × (slice_get xs k ≡ Some x)
stands xs x h = (h.0, slice_get_read xs (length xs) h.0 x refl h.1 (sym h.2))

linked_contains : (e : Entry) (cs : List Cell) → IsLinked e cs → (c : Cell) × Contains cs c × (entry_of c ≡ e)
linked_contains e [] is = absurd is
linked_contains e (d ∷ cs) is = or (λ b. linked_contains e cs b) is
  where
    or : (IsLinked e cs → (c : Cell) × Contains cs c × (entry_of c ≡ e)) → (entry_of d ≡ e) ⊎ IsLinked e cs → (c : Cell) × Contains (d ∷ cs) c × (entry_of c ≡ e)
    or go (inl a) = (d, (zero, omega arith, refl), a)
    or go (inr b) = let r = go b in (r.0, Contains-append_right (d ∷ []) cs r.0 r.1, r.2)

linked_at : (e : Entry) (cs : List Cell) (k : ℕ) (c : Cell) → slice_get cs k ≡ Some c → entry_of c ≡ e → IsLinked e cs
linked_at e [] k c at is = absurd (cc at)
linked_at e (d ∷ cs) zero c at is = inl (let same : d ≡ c = cc at in ap entry_of same ∙ is)
linked_at e (d ∷ cs) (suc k) c at is = inr (linked_at e cs k c at is)

linked_permuted : (e : Entry) (xs ys : List Cell) → IsPermutation xs ys → IsLinked e xs → IsLinked e ys
linked_permuted e xs ys p is =
    let r = linked_contains e xs is in
    let at = stands ys r.0 (Contains-permutation xs ys r.0 p r.1) in
    linked_at e ys at.0 r.0 at.1 r.2

pub kept_permuted : (number : ℕ) (xs ys : List Cell) (es : List Entry) (gone : List CellName) → IsPermutation xs ys → IsKept number xs es gone → IsKept number ys es gone
kept_permuted number xs ys es gone p kept = record {
  logged = each_permuted (IsLogged number es gone) xs ys p kept.logged;
  settled = λ i e at. one e (kept.settled i e at);
}
  where
    one : (e : Entry) → IsGone gone e.name ⊎ IsLinked e xs → IsGone gone e.name ⊎ IsLinked e ys
    one e (inl a) = inl a
    one e (inr b) = inr (linked_permuted e xs ys p b)

-- without a cell that has no share left
pub kept_without : (number : ℕ) (linked : List Cell) (es : List Entry) (gone : List CellName) (c : Cell) → IsKept number (c ∷ linked) es gone → IsKept number linked es (c.name ∷ gone)
kept_without number linked es gone c kept = record {
  logged = each_more (IsLogged number es gone) (IsLogged number es (c.name ∷ gone)) linked (λ d. logged_buried number es gone c.name d) kept.logged.1;
  settled = λ i e at. one e (kept.settled i e at);
}
  where
    two : (e : Entry) → (entry_of c ≡ e) ⊎ IsLinked e linked → IsGone (c.name ∷ gone) e.name ⊎ IsLinked e linked
    two e (inl a) = inl (λ all. all.0 (ap (λ (f : Entry). f.name) a))
    two e (inr b) = inr b

    one : (e : Entry) → IsGone gone e.name ⊎ IsLinked e (c ∷ linked) → IsGone (c.name ∷ gone) e.name ⊎ IsLinked e linked
    one e (inl a) = inl (λ all. a all.1)
    one e (inr b) = two e b

-- an entry of a text of which no cell is linked isn't linked
not_linked : (e : Entry) (cs : List Cell) (text : List ℕ) → IsNew text cs → e.text ≡ text → IsLinked e cs → ⊥
not_linked e [] text all same is = is
not_linked e (c ∷ cs) text all same is = or (λ b. not_linked e cs text (λ i d at. all (suc i) d at) same b) is
  where
    or : (IsLinked e cs → ⊥) → (entry_of c ≡ e) ⊎ IsLinked e cs → ⊥
    or go (inl a) = all zero c refl (ap (λ (f : Entry). f.text) a ∙ same)
    or go (inr b) = go b

-- the cell that is entered last, of a text of which none is linked
pub logged_last : (number : ℕ) (linked : List Cell) (es : List Entry) (gone : List CellName) (c : Cell) (text : List ℕ) → IsKept number linked es gone → IsNew text linked → c.text ≡ text
    → IsTicket (length es + 1) number → c.label.ticket ≡ ticket_of (length es + 1) number → IsLogged number (es ++ entry_of c ∷ []) gone c
logged_last number linked es gone c text kept none is given ticket = record {
  place = length es;
  given = given;
  ticket = ticket;
  stands = snoc_get es (entry_of c);
  alone = λ i f lt at same. two f (same ∙ is) (kept.settled i f (one i f lt (get_snoc es (entry_of c) i f at)));
}
  where
    one : (i : ℕ) (f : Entry) → i < length es → (slice_get es i ≡ Some f) ⊎ ((i ≡ length es) × (entry_of c ≡ f)) → slice_get es i ≡ Some f
    one i f lt (inl a) = a
    one i f lt (inr b) = absurd (let e = b.0 in omega arith)

    two : (f : Entry) → f.text ≡ text → IsGone gone f.name ⊎ IsLinked f linked → IsGone gone f.name
    two f same (inl a) = a
    two f same (inr b) = absurd (not_linked f linked text none same b)

-- with a cell more, of a text of which none is linked
pub kept_with : (number : ℕ) (linked : List Cell) (es : List Entry) (gone : List CellName) (c : Cell) (text : List ℕ) → IsKept number linked es gone → IsNew text linked → c.text ≡ text
    → IsTicket (length es + 1) number → c.label.ticket ≡ ticket_of (length es + 1) number → IsKept number (c ∷ linked) (es ++ entry_of c ∷ []) gone
kept_with number linked es gone c text kept none is given ticket = record {
  logged = (logged_last number linked es gone c text kept none is given ticket, each_more (IsLogged number es gone) Longer linked (λ d. logged_longer number es gone (entry_of c) d) kept.logged);
  settled = λ i e at. one i e (get_snoc es (entry_of c) i e at);
}
  where
    Longer : Cell → Type 0
    Longer = IsLogged number (es ++ entry_of c ∷ []) gone

    two : (e : Entry) → IsGone gone e.name ⊎ IsLinked e linked → IsGone gone e.name ⊎ IsLinked e (c ∷ linked)
    two e (inl a) = inl a
    two e (inr b) = inr (inr b)

    one : (i : ℕ) (e : Entry) → (slice_get es i ≡ Some e) ⊎ ((i ≡ length es) × (entry_of c ≡ e)) → IsGone gone e.name ⊎ IsLinked e (c ∷ linked)
    one i e (inl a) = two e (kept.settled i e a)
    one i e (inr b) = inr (inl b.1)

-- what was seen of a linked cell's log
pub seen_at : (t : Tables) (may : CellName → Type 0) (logs : List ℕ) (number : ℕ) (linked : List Cell) (es : List Entry) (gone : List CellName) (s : LogSeen) (k : ℕ) (c : Cell) → IsKept number linked es gone → AllByRecursion (IsOf t may (length logs) number) linked
    → slice_get linked k ≡ Some c → s.name ≡ slice_index_or logs number 0 → s.entries ≡ es → s.gone ≡ gone → IsSeen t logs s c
seen_at t may logs number linked es gone s k c kept of at named e g =
    let own = each_at (IsOf t may (length logs) number) linked k c of at in
    let one : bucket_of t (length logs) c.text ≡ number = own.bucket in
    record {
      hash = own.hash;
      named = named ∙ ap (λ n. slice_index_or logs n 0) (sym one);
      logged = rw (one, e, g) (each_at (IsLogged number es gone) linked k c kept.logged at);
    }

-- a cell that has a share, and that was seen in the log, is linked
pub has_cell : (t : Tables) (logs : List ℕ) (number : ℕ) (linked : List Cell) (es : List Entry) (gone : List CellName) (s : LogSeen) (c : Cell) → IsKept number linked es gone → IsSeen t logs s c → IsPrefix s.entries es
    → AllByRecursion (λ u. u ≢ c.name) gone → IsNew c.text linked → ⊥
has_cell t logs number linked es gone s c kept seen begins lives none =
    or (kept.settled seen.logged.place (entry_of c) (prefix_get s.entries es seen.logged.place (entry_of c) begins seen.logged.stands))
  where
    or : IsGone gone c.name ⊎ IsLinked (entry_of c) linked → ⊥
    or (inl a) = a lives
    or (inr b) = not_linked (entry_of c) linked c.text none refl b

-- each linked cell of a text has the hash of the text
pub have_hash : (t : Tables) (may : CellName → Type 0) (buckets number : ℕ) (linked : List Cell) (text : List ℕ) (hash : ℕ) → AllByRecursion (IsOf t may buckets number) linked → hash ≡ entry_hash t text → HaveHash text hash linked
have_hash t may buckets number linked text hash of is i c at same = (each_at (IsOf t may buckets number) linked i c of at).hash ∙ (ap (entry_hash t) same ∙ sym is)

-- of what stands there no text is linked that wasn't
pub links_less : (before after : List Cell) (c : Cell) → IsPermutation before (c ∷ after) → LinksNoMore before after
links_less before after c moved text none i d at same =
    let first : Contains (c ∷ after) d = (suc i, omega (arith, slice_get_within after i d at), get_or_from_slice_get after i d d at) in
    let there = stands before d (Contains-permutation (c ∷ after) before d (IsPermutation-sym before (c ∷ after) moved) first) in
    none there.0 d there.1 same
