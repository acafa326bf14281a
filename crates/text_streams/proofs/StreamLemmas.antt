-- Writes one after the other.
use Rattle.std.proofs.Common.{◌≡◌, ℕ, ◌+◌, List, [], ◌++◌, take, drop, Option, None, Some, sym, ◌∙◌, ap, subst, append_assoc, append-nil, refl, Result, Ok, Err}
use Rattle.std.specs.Prelude.{IfSome, OnOk, OnErr}
use Rattle.std.specs.Io.KnownBytes.{Appends, Consumes, IsAtEnd, Keeps}
use Rattle.std.proofs.Math.Seq.{take-add}
use Rattle.std.proofs.lemmas.List.{take-append-drop}
use Rattle.text_streams.specs.Streams.{AppendsBeginning}

-- xs, and then ys
pub appends_then : (a b c : Option (List ℕ)) (xs ys : List ℕ) → Appends a b xs → Appends b c ys → Appends a c (xs ++ ys)
appends_then None b c xs ys h k = tt
appends_then (Some p) None c xs ys h k = absurd h
appends_then (Some p) (Some q) None xs ys h k = k
appends_then (Some p) (Some q) (Some r) xs ys h k = k ∙ ap (λ v. v ++ ys) h ∙ append_assoc p xs ys

-- bytes that are kept grow by nothing
pub appends_nothing : (a b : Option (List ℕ)) → Keeps a b → Appends a b []
appends_nothing None b h = tt
appends_nothing (Some p) None h = h
appends_nothing (Some p) (Some q) h = h ∙ sym (append-nil p)

-- n more bytes of xs, after the first k
pub appends_more : (a b c : Option (List ℕ)) (xs : List ℕ) (k n : ℕ) → Appends a b (take k xs) → Appends b c (take n (drop k xs)) → Appends a c (take (k + n) xs)
appends_more a b c xs k n h i = subst (λ v. Appends a c v) (sym (take-add k n xs)) (appends_then a b c (take k xs) (take n (drop k xs)) h i)

-- what has come of the bytes xs is a beginning of them
pub beginning_of_take : (a b c : Option (List ℕ)) (xs : List ℕ) (k : ℕ) → Appends a b (take k xs) → Keeps b c → AppendsBeginning a c xs
beginning_of_take a b c xs k h i =
    (take k xs, drop k xs, sym (take-append-drop k xs), subst (λ v. Appends a c v) (append-nil (take k xs)) (appends_then a b c (take k xs) [] h (appends_nothing b c i)))

-- a write that took none of the bytes kept them
pub keeps_none : (a b : Option (List ℕ)) → Appends a b [] → Keeps a b
keeps_none None b h = tt
keeps_none (Some p) None h = h
keeps_none (Some p) (Some q) h = h ∙ append-nil p

-- known bytes stay as they are
pub keeps_same : (a : Option (List ℕ)) → Keeps a a
keeps_same None = tt
keeps_same (Some p) = refl

-- xs, and then a beginning of ys
pub beginning_then : (a b c : Option (List ℕ)) (xs ys zs whole : List ℕ) → Appends a b xs → AppendsBeginning b c ys → whole ≡ (xs ++ ys) ++ zs → AppendsBeginning a c whole
beginning_then a b c xs ys zs whole h i e = (
  xs ++ i.0,
  i.1 ++ zs,
  e ∙ ap (λ v. (xs ++ v) ++ zs) i.2 ∙ ap (λ v. v ++ zs) (sym (append_assoc xs i.0 i.1)) ∙ append_assoc (xs ++ i.0) i.1 zs,
  appends_then a b c xs i.0 h i.3,
)

pub beginning_nothing : (a b : Option (List ℕ)) (whole : List ℕ) → Keeps a b → AppendsBeginning a b whole
beginning_nothing a b whole h = ([], whole, refl, appends_nothing a b h)

-- what holds anyway holds on an error
pub on_err : {T E P : Type 0} (r : Result T E) → P → OnErr r P
on_err (Ok x) h = tt
on_err (Err e) h = h

-- what follows from what holds at `Ok`, and at `Err`
pub on_ok_map : {T E P Q : Type 0} (r : Result T E) → (P → Q) → OnOk r P → OnOk r Q
on_ok_map (Ok x) f h = f h
on_ok_map (Err e) f h = tt

pub on_err_map : {T E P Q : Type 0} (r : Result T E) → (P → Q) → OnErr r P → OnErr r Q
on_err_map (Ok x) f h = tt
on_err_map (Err e) f h = f h

-- what was read to the end were the bytes that were left
pub consumed_all : (a b : Option (List ℕ)) (bs : List ℕ) → Consumes a b bs → IsAtEnd b → IfSome a (λ xs. xs ≡ bs)
consumed_all None b bs h e = tt
consumed_all (Some xs) None bs h e = absurd h
consumed_all (Some xs) (Some ys) bs h e = h ∙ ap (λ v. bs ++ v) e ∙ append-nil bs

-- what holds of the text that was read to the end holds of the bytes that were left
pub told_of_all : (P : List ℕ → Type 0) (a b : Option (List ℕ)) (bytes text : List ℕ) → Consumes a b bytes → IsAtEnd b → text ≡ bytes → P text → IfSome a P
told_of_all P None b bytes text read end same told = tt
told_of_all P (Some all) b bytes text read end same told = subst P (same ∙ sym (consumed_all (Some all) b bytes read end)) told

-- what holds of the text that the bytes spell holds of the bytes
pub told_of_given : (P : List ℕ → Type 0) (a : Option (List ℕ)) (given text : List ℕ) → IfSome a (λ bytes. bytes ≡ given) → text ≡ given → P text → IfSome a P
told_of_given P None given text is same told = tt
told_of_given P (Some bytes) given text is same told = subst P (same ∙ sym is) told

-- at any known bytes
pub if_some_any : (a : Option (List ℕ)) {P : List ℕ → Type 0} → ((xs : List ℕ) → P xs) → IfSome a P
if_some_any None f = tt
if_some_any (Some xs) f = f xs
