-- A run, call by call.
use Rattle.std.proofs.Common.{◌≡◌, ◌∙◌, ap, sym, subst, refl, List, [], ◌∷◌, ◌++◌, length, take, get_or, ℕ, ◌+◌, ◌<◌, ◌≤◌, ◌⊎◌, inl, inr, true, false, cond, Option, None, Some, Result, arith}
use Rattle.std.specs.Prelude.{◌==◌, if◌then◌else◌, string_bytes}
use Rattle.std.proofs.lemmas.Bool.{cases_Bool, eqb-true}
use Rattle.std.proofs.lemmas.List.{take_more}
use Rattle.text_forms.specs.declared.faults.Fault.{Fault}
use Rattle.interner_table.specs.declared.table.call.Call.{Call}
use Rattle.interner_table.specs.declared.table.call.Call.TheVariants as call
use Rattle.interner_table.specs.declared.table.call.TableReply.{TableReply}
use Rattle.text_forms.specs.Bounds.{Bounds}
use Rattle.interner_table.specs.Calls.{Answers, AnswersAll}
use Rattle.text_forms.specs.Map.{Holding, InternMap, MapCall, Intern, Clone, Give, MapReply, MayAdd, MayIntern, MayReply, with_held, with_last}
use Rattle.interner_table.specs.Table.{InternsBy, Clones, Gives}
use Rattle.text_forms.specs.Tables.{Tables, form_of_text, fixed_word, bucket_of}

-- one call more, at the end
replays-push : (t : Tables) (limits : Bounds) (m mid new : InternMap) (calls : List Call) (answers : List TableReply) (c : Call) (answer : TableReply)
    → AnswersAll t limits m calls answers mid → Answers t limits mid c answer new → AnswersAll t limits m (calls ++ c ∷ []) (answers ++ answer ∷ []) new
replays-push t limits m mid new [] [] c answer h a = (new, subst (λ (k : InternMap). Answers t limits k c answer new) h a, refl)
replays-push t limits m mid new [] (r ∷ rs) c answer h a = absurd h
replays-push t limits m mid new (d ∷ ds) [] c answer h a = absurd h
replays-push t limits m mid new (d ∷ ds) (r ∷ rs) c answer h a = (h.0, h.1, replays-push t limits h.0 mid new ds rs c answer h.2 a)

-- the calls so far, and the next
pub replays-more : (t : Tables) (limits own : Bounds) (m mid new : InternMap) (calls : List Call) (i : ℕ) (answers after : List TableReply) (c : Call) (answer : TableReply)
    → i < length calls → c ≡ get_or calls i c → after ≡ answers ++ answer ∷ [] → own ≡ limits → AnswersAll t limits m (take i calls) answers mid → Answers t own mid c answer new
    → AnswersAll t limits m (take (i + 1) calls) after new
replays-more t limits own m mid new calls i answers after c answer within is pushed same so_far a =
    let step : take (i + 1) calls ≡ take i calls ++ c ∷ [] = take_more calls i c within ∙ ap (λ (x : Call). take i calls ++ x ∷ []) (sym is) in
    let next = replays-push t limits m mid new (take i calls) answers c answer so_far (subst (λ (l : Bounds). Answers t l mid c answer new) same a) in
    subst (λ (rs : List TableReply). AnswersAll t limits m (take (i + 1) calls) rs new) (sym pushed)
    (subst (λ (cs : List Call). AnswersAll t limits m cs (answers ++ answer ∷ []) new) (sym step) next)

-- ---- no call takes a last serial back

grows-same : (m new : InternMap) (bucket : ℕ) → new ≡ m → m.last bucket ≤ new.last bucket
grows-same m new bucket e = let same : new.last bucket ≡ m.last bucket = ap (λ (k : InternMap). k.last bucket) e in omega (arith, same)

grows-held : (m new : InternMap) (text : List ℕ) (w : Option Holding) (bucket : ℕ) → new ≡ with_held m text w → m.last bucket ≤ new.last bucket
grows-held m new text w bucket e = let same : new.last bucket ≡ m.last bucket = ap (λ (k : InternMap). k.last bucket) e in omega (arith, same)

grows-last : (m new : InternMap) (text : List ℕ) (w : Option Holding) (own bucket : ℕ) → new ≡ with_last (with_held m text w) own (m.last own + 1) → m.last bucket ≤ new.last bucket
grows-last m new text w own bucket e = by (cases_Bool (bucket == own))
  where
    same : new.last bucket ≡ (if bucket == own then m.last own + 1 else m.last bucket)
    same = ap (λ (k : InternMap). k.last bucket) e

    by : ((bucket == own) ≡ true) ⊎ ((bucket == own) ≡ false) → m.last bucket ≤ new.last bucket
    by (inl is) = let at = ap m.last (eqb-true bucket own is) in let there : new.last bucket ≡ m.last own + 1 = same ∙ ap (λ b. cond b (m.last own + 1) (m.last bucket)) is in omega (arith, at, there)
    by (inr other) = let there : new.last bucket ≡ m.last bucket = same ∙ ap (λ b. cond b (m.last own + 1) (m.last bucket)) other in omega (arith, there)

grows-adds : (limits : Bounds) (m new : InternMap) (text : List ℕ) (had : Holding) (reply : MapReply) (bucket : ℕ) → MayAdd limits m text had reply new → m.last bucket ≤ new.last bucket
grows-adds limits m new text had reply bucket (inl x) = grows-held m new text _ bucket x.2
grows-adds limits m new text had reply bucket (inr x) = grows-same m new bucket x.2

grows-intern : (t : Tables) (limits : Bounds) (m new : InternMap) (text : List ℕ) (held : Option Holding) (reply : MapReply) (bucket : ℕ) → MayIntern t limits m text held reply new → m.last bucket ≤ new.last bucket
grows-intern t limits m new text (Some had) reply bucket x = grows-adds limits m new text had reply bucket x
grows-intern t limits m new text None reply bucket (inl x) = grows-last m new text _ (bucket_of t m.buckets text) bucket x.2
grows-intern t limits m new text None reply bucket (inr (inl x)) = grows-same m new bucket x.2
grows-intern t limits m new text None reply bucket (inr (inr x)) = grows-same m new bucket x.2

grows-reply : (t : Tables) (limits : Bounds) (m new : InternMap) (c : MapCall) (reply : MapReply) (bucket : ℕ) → MayReply t limits m c reply new → m.last bucket ≤ new.last bucket
grows-reply t limits m new (Intern text) reply bucket x = grows-intern t limits m new text (m.held text) reply bucket x
grows-reply t limits m new (Clone ticket) reply bucket x = grows-adds limits m new x.0.text _ reply bucket x.1
grows-reply t limits m new (Give ticket) reply bucket x = grows-held m new x.0.text _ bucket x.1.1

grows-interns : (t : Tables) (limits : Bounds) (m new : InternMap) (text : List ℕ) (fixed : Option ℕ) (result : Result ℕ Fault) (bucket : ℕ) → InternsBy t limits m text fixed result new → m.last bucket ≤ new.last bucket
grows-interns t limits m new text (Some word) result bucket x = grows-same m new bucket x.1
grows-interns t limits m new text None result bucket x = grows-reply t limits m new (Intern text) x.0 bucket x.1

grows-clones : (t : Tables) (limits : Bounds) (m new : InternMap) (word : ℕ) (result : Result ℕ Fault) (bucket : ℕ) → Clones t limits m word result new → m.last bucket ≤ new.last bucket
grows-clones t limits m new word result bucket (inl x) = grows-same m new bucket x.2
grows-clones t limits m new word result bucket (inr x) = grows-reply t limits m new (Clone word) x.0 bucket x.1

grows-gives : (t : Tables) (limits : Bounds) (m new : InternMap) (word : ℕ) (bucket : ℕ) → Gives t limits m word new → m.last bucket ≤ new.last bucket
grows-gives t limits m new word bucket (inl x) = grows-same m new bucket x.1
grows-gives t limits m new word bucket (inr x) = grows-reply t limits m new (Give word) x.0 bucket x.1

answers-grow : (t : Tables) (limits : Bounds) (m new : InternMap) (c : Call) (answer : TableReply) (bucket : ℕ) → Answers t limits m c answer new → m.last bucket ≤ new.last bucket
answers-grow t limits m new (call.Intern text) answer bucket x = grows-interns t limits m new (string_bytes text) (fixed_word (form_of_text t (string_bytes text))) x.0 bucket x.1
answers-grow t limits m new (call.Clone word) answer bucket (inl x) = grows-clones t limits m new word x.0 bucket x.1
answers-grow t limits m new (call.Clone word) answer bucket (inr x) = grows-same m new bucket x.2
answers-grow t limits m new (call.Give word) answer bucket (inl x) = grows-gives t limits m new word bucket x.0
answers-grow t limits m new (call.Give word) answer bucket (inr x) = grows-same m new bucket x.2

pub replays-grow : (t : Tables) (limits : Bounds) (m new : InternMap) (calls : List Call) (answers : List TableReply) (bucket : ℕ) → AnswersAll t limits m calls answers new → m.last bucket ≤ new.last bucket
replays-grow t limits m new [] [] bucket h = grows-same m new bucket h
replays-grow t limits m new [] (r ∷ rs) bucket h = absurd h
replays-grow t limits m new (c ∷ cs) [] bucket h = absurd h
replays-grow t limits m new (c ∷ cs) (r ∷ rs) bucket h =
    let one = answers-grow t limits m h.0 c r bucket h.1 in let rest = replays-grow t limits h.0 new cs rs bucket h.2 in omega (arith, one, rest)
