-- What stands for the bag: each entry's ticket as often as it counts, where no two entries have one ticket.
use Rattle.std.proofs.Common.{◌≡◌, ℕ, ◌+◌, ◌-◌, ◌<◌, ◌≤◌, ◌≢◌, Bool, true, false, cond, List, [], ◌∷◌, ◌++◌, length, replicate, refl, sym, ap, ◌∙◌, arith, zero, suc}
use Rattle.std.specs.Prelude.{slice_set, slice_index}
use Rattle.std.proofs.lemmas.Bool.{eq-eqb, false_from_ne_true, ne_eqb}
use Rattle.std.proofs.lemmas.Option.{none-some}
use Rattle.text_forms.specs.Word.{ticket_of}
use Rattle.atomic_steps.specs.declared.steps.world_entry.Place.{Place}
use Rattle.atomic_steps.specs.World.{WorldEntry, PartyPass, World}
use Rattle.atomic_steps.specs.Steps.{has, with_one, without_one}
use Rattle.atomic_steps.specs.Sound.{At, SoundTable}
use Rattle.atomic_steps.specs.Places.{held_places}
use Rattle.atomic_steps.proofs.lists.Facts.{has-times, times-has}
use Rattle.atomic_steps.proofs.worlds.Kept.{fresh}

-- whether a ticket is held, by its entry's count
pub has_by_count : (es : List WorldEntry) (lasts bag : List ℕ) → SoundTable es lasts bag → (k : ℕ) (x : WorldEntry) → At es k x → (b : Bool) → (b ≡ true → 0 < x.count) → (b ≡ false → x.count ≤ 0) → b ≡ has bag x.ticket
has_by_count es lasts bag table k x at true some none = sym (times-has x.ticket bag (let c = table.counted k x at in let h = some refl in omega (arith, c, h)))
has_by_count es lasts bag table k x at false some none =
    sym (false_from_ne_true (has bag x.ticket) (λ h. let c = table.counted k x at in let t = has-times x.ticket bag h in let z = none refl in omega (arith, c, t, z)))

-- what is held has a holder
pub held_counts : (es : List WorldEntry) (lasts bag : List ℕ) → SoundTable es lasts bag → (k : ℕ) (x : WorldEntry) → At es k x → has bag x.ticket ≡ true → 0 < x.count
held_counts es lasts bag table k x at h = let c = table.counted k x at in let t = has-times x.ticket bag h in omega (arith, c, t)

-- ---- past other tickets

with_one-past : (n a b : ℕ) (rest : List ℕ) → a ≢ b → with_one b (replicate n a ++ rest) ≡ replicate n a ++ with_one b rest
with_one-past zero a b rest other = refl
with_one-past (suc n) a b rest other =
    ap (λ (c : Bool). cond c (b ∷ a ∷ (replicate n a ++ rest)) (a ∷ with_one b (replicate n a ++ rest))) (ne_eqb a b other)
    ∙ ap (λ (ys : List ℕ). a ∷ ys) (with_one-past n a b rest other)

without_one-past : (n a b : ℕ) (rest : List ℕ) → a ≢ b → without_one b (replicate n a ++ rest) ≡ replicate n a ++ without_one b rest
without_one-past zero a b rest other = refl
without_one-past (suc n) a b rest other =
    ap (λ (c : Bool). cond c (replicate n a ++ rest) (a ∷ without_one b (replicate n a ++ rest))) (ne_eqb a b other)
    ∙ ap (λ (ys : List ℕ). a ∷ ys) (without_one-past n a b rest other)

with_one-here : (n a : ℕ) (rest : List ℕ) → 0 < n → replicate (n + 1) a ++ rest ≡ with_one a (replicate n a ++ rest)
with_one-here zero a rest some = absurd (omega arith)
with_one-here (suc n) a rest some =
    let e : suc n + 1 ≡ suc (suc n) = omega arith in
    ap (λ (m : ℕ). replicate m a ++ rest) e
    ∙ sym (ap (λ (c : Bool). cond c (a ∷ a ∷ (replicate n a ++ rest)) (a ∷ with_one a (replicate n a ++ rest))) (eq-eqb a a refl))

without_one-here : (n a : ℕ) (rest : List ℕ) → 0 < n → replicate (n - 1) a ++ rest ≡ without_one a (replicate n a ++ rest)
without_one-here zero a rest some = absurd (omega arith)
without_one-here (suc n) a rest some =
    let e : suc n - 1 ≡ n = omega arith in
    ap (λ (m : ℕ). replicate m a ++ rest) e
    ∙ sym (ap (λ (c : Bool). cond c (replicate n a ++ rest) (a ∷ without_one a (replicate n a ++ rest))) (eq-eqb a a refl))

-- ---- one entry changes

abbrev IsAlone : List WorldEntry → ℕ → WorldEntry → Type 0
IsAlone es k x = (j : ℕ) (z : WorldEntry) → At es j z → z.ticket ≡ x.ticket → j ≡ k

raised : (es : List WorldEntry) (k : ℕ) (x : WorldEntry) → At es k x → IsAlone es k x → 0 < x.count → held_places (slice_set es k (record x { count = x.count + 1 })) ≡ with_one x.ticket (held_places es)
raised [] k x at alone some = absurd (none-some x at)
raised (z ∷ es) zero x at alone some =
    let is : z ≡ x = cc in
    with_one-here x.count x.ticket (held_places es) some ∙ ap (λ (v : WorldEntry). with_one x.ticket (replicate v.count v.ticket ++ held_places es)) (sym is)
raised (z ∷ es) (suc k) x at alone some =
    let other : z.ticket ≢ x.ticket = λ e. (let f : zero ≡ suc k = alone zero z refl e in omega arith) in
    ap (λ (ys : List ℕ). replicate z.count z.ticket ++ ys) (raised es k x at (λ j v a e. let f : suc j ≡ suc k = alone (suc j) v a e in omega arith) some)
    ∙ sym (with_one-past z.count z.ticket x.ticket (held_places es) other)

lowered : (es : List WorldEntry) (k : ℕ) (x : WorldEntry) → At es k x → IsAlone es k x → 0 < x.count → held_places (slice_set es k (record x { count = x.count - 1 })) ≡ without_one x.ticket (held_places es)
lowered [] k x at alone some = absurd (none-some x at)
lowered (z ∷ es) zero x at alone some =
    let is : z ≡ x = cc in
    without_one-here x.count x.ticket (held_places es) some ∙ ap (λ (v : WorldEntry). without_one x.ticket (replicate v.count v.ticket ++ held_places es)) (sym is)
lowered (z ∷ es) (suc k) x at alone some =
    let other : z.ticket ≢ x.ticket = λ e. (let f : zero ≡ suc k = alone zero z refl e in omega arith) in
    ap (λ (ys : List ℕ). replicate z.count z.ticket ++ ys) (lowered es k x at (λ j v a e. let f : suc j ≡ suc k = alone (suc j) v a e in omega arith) some)
    ∙ sym (without_one-past z.count z.ticket x.ticket (held_places es) other)

pub places_moved : (es : List WorldEntry) (k : ℕ) (x : WorldEntry) (to : Place) → At es k x → held_places (slice_set es k (record x { place = to })) ≡ held_places es
places_moved [] k x to at = absurd (none-some x at)
places_moved (z ∷ es) zero x to at =
    let is : x ≡ z = cc in
    ap (λ (v : WorldEntry). replicate v.count v.ticket ++ held_places es) is
places_moved (z ∷ es) (suc k) x to at = ap (λ (ys : List ℕ). replicate z.count z.ticket ++ ys) (places_moved es k x to at)

pushed : (es : List WorldEntry) (y : WorldEntry) → ((k : ℕ) (x : WorldEntry) → At es k x → x.ticket ≢ y.ticket) → y.count ≡ 1 → held_places (es ++ y ∷ []) ≡ with_one y.ticket (held_places es)
pushed [] y new one = ap (λ (n : ℕ). replicate n y.ticket ++ []) one
pushed (z ∷ es) y new one =
    ap (λ (ys : List ℕ). replicate z.count z.ticket ++ ys) (pushed es y (λ k x a. new (suc k) x a) one)
    ∙ sym (with_one-past z.count z.ticket y.ticket (held_places es) (new zero z refl))

-- ---- in a sound table

module _ (es : List WorldEntry) (lasts bag : List ℕ) (table : SoundTable es lasts bag) where
  alone : (k : ℕ) (x : WorldEntry) → At es k x → IsAlone es k x
  alone k x at j z a e = table.apart j k z x a at e

  pub places_raised : (k : ℕ) (x : WorldEntry) → At es k x → 0 < x.count → held_places (slice_set es k (record x { count = x.count + 1 })) ≡ with_one x.ticket (held_places es)
  places_raised k x at some = raised es k x at (alone k x at) some

  pub places_lowered : (k : ℕ) (x : WorldEntry) → At es k x → 0 < x.count → held_places (slice_set es k (record x { count = x.count - 1 })) ≡ without_one x.ticket (held_places es)
  places_lowered k x at some = lowered es k x at (alone k x at) some

  pub places_pushed : (y : WorldEntry) → y.bucket < length lasts → (serial : ℕ) → serial ≡ slice_index lasts y.bucket + 1 → y.ticket ≡ ticket_of serial y.bucket → y.count ≡ 1 → held_places (es ++ y ∷ []) ≡ with_one y.ticket (held_places es)
  places_pushed y below serial is ticket one = pushed es y (fresh es lasts bag y table below (ticket ∙ ap (λ (n : ℕ). ticket_of n y.bucket) is)) one

-- ---- in a world whose bag the entries stand for

pub raised_world : (old w : World) → old ≡ w → old.bag ≡ held_places old.entries → SoundTable w.entries w.lasts w.bag → (k : ℕ) (x : WorldEntry) → At w.entries k x → 0 < x.count
    → (es : List WorldEntry) → es ≡ slice_set w.entries k (record x { count = x.count + 1 })
    → ◌≡◌ {A = World} (record old { entries = es; bag = held_places es }) (record w { entries = slice_set w.entries k (record x { count = x.count + 1 }); bag = with_one x.ticket w.bag })
raised_world old w same bag table k x at some es is =
    let places : w.bag ≡ held_places w.entries = sym (ap (λ (v : World). v.bag) same) ∙ bag ∙ ap (λ (v : World). held_places v.entries) same in
    let new : held_places es ≡ with_one x.ticket w.bag = ap held_places is ∙ places_raised w.entries w.lasts w.bag table k x at some ∙ ap (with_one x.ticket) (sym places) in
    λ i. record { limits = (same i).limits; lasts = (same i).lasts; entries = is i; passes = (same i).passes; bag = new i }

pub lowered_world : (old w : World) → old ≡ w → old.bag ≡ held_places old.entries → SoundTable w.entries w.lasts w.bag → (k : ℕ) (x : WorldEntry) → At w.entries k x → 0 < x.count
    → (es : List WorldEntry) → es ≡ slice_set w.entries k (record x { count = x.count - 1 })
    → ◌≡◌ {A = World} (record old { entries = es; bag = held_places es }) (record w { entries = slice_set w.entries k (record x { count = x.count - 1 }); bag = without_one x.ticket w.bag })
lowered_world old w same bag table k x at some es is =
    let places : w.bag ≡ held_places w.entries = sym (ap (λ (v : World). v.bag) same) ∙ bag ∙ ap (λ (v : World). held_places v.entries) same in
    let new : held_places es ≡ without_one x.ticket w.bag = ap held_places is ∙ places_lowered w.entries w.lasts w.bag table k x at some ∙ ap (without_one x.ticket) (sym places) in
    λ i. record { limits = (same i).limits; lasts = (same i).lasts; entries = is i; passes = (same i).passes; bag = new i }

pub moved_world : (old w : World) → old ≡ w → old.bag ≡ held_places old.entries → (k : ℕ) (x : WorldEntry) (to : Place) → At w.entries k x
    → (es : List WorldEntry) → es ≡ slice_set w.entries k (record x { place = to })
    → ◌≡◌ {A = World} (record old { entries = es; bag = held_places es }) (record w { entries = slice_set w.entries k (record x { place = to }) })
moved_world old w same bag k x to at es is =
    let places : held_places w.entries ≡ w.bag = ap (λ (v : World). held_places v.entries) (sym same) ∙ sym bag ∙ ap (λ (v : World). v.bag) same in
    let new : held_places es ≡ w.bag = ap held_places is ∙ places_moved w.entries k x to at ∙ places in
    λ i. record { limits = (same i).limits; lasts = (same i).lasts; entries = is i; passes = (same i).passes; bag = new i }

pub pushed_world : (old w : World) → old ≡ w → old.bag ≡ held_places old.entries → SoundTable w.entries w.lasts w.bag → (y : WorldEntry) → y.bucket < length w.lasts
    → (serial : ℕ) → serial ≡ slice_index w.lasts y.bucket + 1 → y.ticket ≡ ticket_of serial y.bucket → y.count ≡ 1
    → (lasts lasts' : List ℕ) → lasts ≡ lasts' → (passes passes' : List PartyPass) → passes ≡ passes' → (es : List WorldEntry) → es ≡ w.entries ++ y ∷ []
    → ◌≡◌ {A = World} (record old { lasts = lasts; entries = es; passes = passes; bag = held_places es }) (record w { lasts = lasts'; entries = w.entries ++ y ∷ []; passes = passes'; bag = with_one y.ticket w.bag })
pushed_world old w same bag table y below serial next ticket one lasts lasts' ls passes passes' ps es is =
    let places : w.bag ≡ held_places w.entries = sym (ap (λ (v : World). v.bag) same) ∙ bag ∙ ap (λ (v : World). held_places v.entries) same in
    let new : held_places es ≡ with_one y.ticket w.bag = ap held_places is ∙ places_pushed w.entries w.lasts w.bag table y below serial next ticket one ∙ ap (with_one y.ticket) (sym places) in
    λ i. record { limits = (same i).limits; lasts = ls i; entries = is i; passes = ps i; bag = new i }
