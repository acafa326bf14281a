-- Results that are all there.
use Rattle.std.proofs.Common.{◌≡◌, ℕ, zero, suc, ◌<◌, List, [], ◌∷◌, ◌++◌, length, slice_index_or, Result, Ok, IfOk, refl, ap, subst, append_assoc, arith}
use Rattle.std.specs.List.{AllZip}
use Rattle.example_named.specs.Results.{oks}

oks_push : {T E : Type 0} (values : List T) (value : T) → oks {E = E} (values ++ value ∷ []) ≡ oks {E = E} values ++ Ok value ∷ []
oks_push [] value = refl
oks_push {T} {E} (x ∷ xs) value = ap (λ (ys : List (Result T E)). Ok x ∷ ys) (oks_push {E = E} xs value)

-- the next result is there too
pub oks_next : {T E : Type 0} (values more : List T) (value : T) (item : Result T E) (next rest all : List (Result T E)) → oks values ++ next ≡ all → next ≡ item ∷ rest → item ≡ Ok value → more ≡ values ++ value ∷ [] → oks more ++ rest ≡ all
oks_next {T} {E} values more value item next rest all before step was is =
    let pushed : oks {E = E} (values ++ value ∷ []) ≡ oks values ++ Ok value ∷ [] = oks_push {E = E} values value in
    let joined : (oks {E = E} values ++ Ok value ∷ []) ++ rest ≡ oks values ++ (Ok value ∷ rest) = append_assoc (oks {E = E} values) (Ok value ∷ []) rest in
    cc (pushed, joined, before, step, was, is)

pub nothing_left : {T : Type 0} (xs : List T) → length xs ≡ 0 → xs ≡ []
nothing_left [] none = refl
nothing_left (x ∷ xs) none = absurd (omega arith)

-- what each call gave, where all gave a value
pub each_ok : {A B E : Type 0} (P : B → A → Type 0) (texts : List B) (values : List A) (results : List (Result A E)) → results ≡ oks values → length results ≡ length texts
    → ((at : ℕ) (d : Result A E) (e : B) → at < length texts → IfOk (slice_index_or results at d) (P (slice_index_or texts at e))) → AllZip P texts values
each_ok P [] [] results is len each = tt
each_ok P [] (x ∷ values) [] is len each = absurd (cc is)
each_ok P [] (x ∷ values) (r ∷ results) is len each = absurd (omega arith)
each_ok P (t ∷ texts) [] [] is len each = absurd (omega arith)
each_ok P (t ∷ texts) [] (r ∷ results) is len each = absurd (cc is)
each_ok P (t ∷ texts) (x ∷ values) [] is len each = absurd (cc is)
each_ok {A} {B} {E} P (t ∷ texts) (x ∷ values) (r ∷ results) is len each =
    let head : r ≡ Ok x = cc is in
    let tail : results ≡ oks values = cc is in
    let first : IfOk r (P t) = each zero r t (omega arith) in
    let same : length results ≡ length texts = omega arith in
    (subst (λ (s : Result A E). IfOk s (P t)) head first, each_ok P texts values results tail same (λ at d e lt. each (suc at) d e (omega arith)))
