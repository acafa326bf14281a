-- A script has one output: its lines decide each step, but for where a text lies in memory.
use Rattle.std.proofs.Common.{◌≡◌, ℕ, ◌^◌, ◌<◌, ◌≤◌, inl, inr, true, false, List, [], ◌∷◌, length, drop, get_or, sym, refl, ap, subst, ◌∙◌, arith, codes, decimal}
use Rattle.std.specs.Prelude.{if◌then◌else◌, ◌==◌, Option}
use Rattle.std.specs.Option.{unwrap_or}
use Rattle.std.specs.Str.Parse.{digits_value}
use Rattle.std.proofs.lemmas.Fmt.{decimal_is_IsNumeral, decimal_nonempty, decimal_injective}
use Rattle.std.proofs.lemmas.List.{append_cancel_left}
use Rattle.std.proofs.Math.ListN.{get_or-append}
use Rattle.text_forms.specs.Bounds.{Bounds}
use Rattle.text_forms.specs.Tables.{Tables}
use Rattle.atomic_steps.specs.World.{World}
use Rattle.atomic_steps.specs.declared.steps.Step.{Step}
use Rattle.atomic_steps.specs.declared.steps.Step.TheVariants.{TakeIntern, TakeSweep, Add, Link, Clone, Give, Unlink, Free, Leave}
use Rattle.atomic_steps.specs.declared.steps.StepReply.{StepReply}
use Rattle.atomic_steps.specs.declared.steps.StepReply.TheVariants as reply
use Rattle.atomic_steps.specs.Steps.{step, step_if, take_intern_if, opening}
use Rattle.atomic_steps.specs.Runs.{Leads, Script, events_of}
use Rattle.replay_script.specs.Script.{script_lines, step_words, HasWords, Spells, SpellsBuckets, SpellsLimits, SpellSteps, SpellBody, SpellScript}
use Rattle.replay_script.specs.Replay.{output_of, IsOutput, IsReplay}
use Rattle.text_forms.proofs.NumberLemmas.{decimal_byte}
use Rattle.replay_script.proofs.CutLemmas.{cut_once, limits_cut}

value_of : (n : ℕ) → n < 2 ^ 64 → digits_value 10 (decimal n) ≡ n
value_of n small = (decimal_is_IsNumeral n small).1

-- what a step's words do in a world, where they are of a step
module _ (t : Tables) (w : World) (party : ℕ) where
  abbrev does_words : List ℕ → Option (StepReply × World)
  does_words bs =
      if get_or bs 0 0 == 105 then take_intern_if t w party (drop 7 bs)
      else if get_or bs 0 0 == 115 then step_if t w party (TakeSweep (digits_value 10 (drop 6 bs)))
      else if get_or bs 0 0 == 97 then step_if t w party (Add (digits_value 10 (drop 5 bs)))
      else if get_or bs 0 0 == 99 then step_if t w party (Clone (digits_value 10 (drop 7 bs)))
      else if get_or bs 0 0 == 103 then step_if t w party (Give (digits_value 10 (drop 6 bs)))
      else if get_or bs 0 0 == 117 then step_if t w party (Unlink (digits_value 10 (drop 8 bs)))
      else if get_or bs 0 0 == 102 then step_if t w party (Free (digits_value 10 (drop 6 bs)))
      else if get_or bs 1 0 == 101 then step_if t w party Leave
      else step_if t w party (Link (length bs == 4))

  does_step : (s : Step) → HasWords s → step_if t w party s ≡ does_words (step_words s)
  does_step (TakeIntern text) range = refl
  does_step (TakeSweep b) range = ap (λ n. step_if t w party (TakeSweep n)) (sym (value_of b (omega (arith, range))))
  does_step (Add e) range = ap (λ n. step_if t w party (Add n)) (sym (value_of e range.1))
  does_step (Link true) range = refl
  does_step (Link false) range = refl
  does_step (Clone e) range = ap (λ n. step_if t w party (Clone n)) (sym (value_of e range.1))
  does_step (Give e) range = ap (λ n. step_if t w party (Give n)) (sym (value_of e range.1))
  does_step (Unlink e) range = ap (λ n. step_if t w party (Unlink n)) (sym (value_of e range.1))
  does_step (Free e) range = ap (λ n. step_if t w party (Free n)) (sym (value_of e range.1))
  does_step Leave range = refl

  same_words : (s u : Step) → HasWords s → HasWords u → step_words s ≡ step_words u → step t w party s ≡ step t w party u
  same_words s u p q e = ap (λ o. unwrap_or o (reply.No, w)) (does_step s p ∙ ap does_words e ∙ sym (does_step u q))

-- a line decides its step
one_step : (t : Tables) (w : World) (line : List ℕ) (s u : ℕ × Step) → Spells line s → Spells line u → step t w s.0 s.1 ≡ step t w u.0 u.1
one_step t w line s u p q =
    let cut = cut_once line s.0 u.0 (step_words s.1) (step_words u.1) (omega (arith, p.0.1)) (omega (arith, q.0.1)) p.1 q.1 in
    same_words t w s.0 s.1 u.1 p.0.2 q.0.2 cut.1 ∙ ap (λ party. step t w party u.1) cut.0

-- the lines decide the run
one_run : (t : Tables) (lines : List (List ℕ)) (s u : Script) → SpellSteps lines s → SpellSteps lines u → (q r : List StepReply) → length q ≡ length s → length r ≡ length u
    → (w v x : World) → Leads t w (events_of s q) v → Leads t w (events_of u r) x → (q ≡ r) × (v ≡ x)
one_run t [] [] [] a b [] [] m n w v x c d = (refl, c ∙ sym d)
one_run t [] [] [] a b [] (y ∷ r) m n w v x c d = absurd (omega (arith, n))
one_run t [] [] [] a b (y ∷ q) r m n w v x c d = absurd (omega (arith, m))
one_run t [] [] (y ∷ u) a b q r m n w v x c d = absurd b
one_run t [] (y ∷ s) u a b q r m n w v x c d = absurd a
one_run t (line ∷ lines) [] u a b q r m n w v x c d = absurd a
one_run t (line ∷ lines) (y ∷ s) [] a b q r m n w v x c d = absurd b
one_run t (line ∷ lines) (y ∷ s) (z ∷ u) a b [] r m n w v x c d = absurd (omega (arith, m))
one_run t (line ∷ lines) (y ∷ s) (z ∷ u) a b (g ∷ q) [] m n w v x c d = absurd (omega (arith, n))
one_run t (line ∷ lines) (y ∷ s) (z ∷ u) a b (g ∷ q) (h ∷ r) m n w v x c d =
    let fewer : length q ≡ length s = omega (arith, m) in
    let fewer_too : length r ≡ length u = omega (arith, n) in
    let same : (g, c.0) ≡ (h, d.0) = sym c.1 ∙ one_step t w line y z a.0 b.0 ∙ d.1 in
    let mid : c.0 ≡ d.0 = ap (λ (o : StepReply × World). o.1) same in
    let rest = one_run t lines s u a.1 b.1 q r fewer fewer_too d.0 v x (subst (λ (k : World). Leads t k (events_of s q) v) mid c.2) d.2 in
    (ap (λ (o : StepReply × World). o.0 ∷ q) same ∙ ap (λ rs. h ∷ rs) rest.0, rest.1)

-- no line that begins with a letter spells a step
no_step : (line : List ℕ) (s : ℕ × Step) → 58 ≤ get_or line 0 0 → Spells line s → ⊥
no_step line s letter q =
    let small : s.0 < 2 ^ 64 = omega (arith, q.0.1) in
    let digit = decimal_byte s.0 small 0 (decimal_nonempty s.0 small) in
    let first : get_or (decimal s.0) 0 0 ≡ get_or line 0 0 =
    sym (get_or-append (decimal s.0) (32 ∷ step_words s.1) 0 0 (decimal_nonempty s.0 small)) ∙ sym (ap (λ v. get_or v 0 0) q.1) in
    omega (arith, digit.1, first, letter)

-- a line decides its limits
one_limits : (line : List ℕ) (l m : Bounds) → SpellsLimits line l → SpellsLimits line m → l ≡ m
one_limits line l m p q =
    let cut = limits_cut line (decimal l.serials) l.holders (omega (arith, p.0.1)) p.1 m q in
    let serials : l.serials ≡ m.serials = decimal_injective l.serials m.serials (omega (arith, p.0.3)) (omega (arith, q.0.3)) cut.1 in
    ap (λ h. record { holders = h; serials = l.serials }) cut.0 ∙ ap (λ n. record { holders = m.holders; serials = n }) serials

-- a line decides its number of buckets
one_buckets : (line : List ℕ) (b c : ℕ) → SpellsBuckets line b → SpellsBuckets line c → b ≡ c
one_buckets line b c p q = decimal_injective b c (omega (arith, p.0)) (omega (arith, q.0)) (append_cancel_left (codes "buckets ") _ _ (sym p.1 ∙ q.1))

-- Both have the same number of buckets, and steps of the same lines.
record SameSteps (b c : ℕ) (s u : Script) : Type 0 where
  same : b ≡ c
  lines : List (List ℕ)
  one : SpellSteps lines s
  other : SpellSteps lines u

steps_or_letter : (line : List ℕ) (rest : List (List ℕ)) (s : Script) → 58 ≤ get_or line 0 0 → SpellSteps (line ∷ rest) s → ⊥
steps_or_letter line rest [] letter all = all
steps_or_letter line rest (x ∷ s) letter all = no_step line x letter all.0

-- the first letters of the line of limits, and of that of a number of buckets
limits_letter : (line : List ℕ) (l : Bounds) → SpellsLimits line l → get_or line 0 0 ≡ 108
limits_letter line l p = ap (λ v. get_or v 0 0) p.1

buckets_letter : (line : List ℕ) (b : ℕ) → SpellsBuckets line b → get_or line 0 0 ≡ 98
buckets_letter line b p = ap (λ v. get_or v 0 0) p.1

one_body : (lines : List (List ℕ)) (b c : ℕ) (s u : Script) → SpellBody lines b s → SpellBody lines c u → SameSteps b c s u
one_body lines b c s u (inl p) (inl q) = record { same = p.0 ∙ sym q.0; lines = lines; one = p.1; other = q.1 }
one_body lines b c s u (inl p) (inr q) = absurd (steps_or_letter q.0 q.1 s (let first = buckets_letter q.0 c q.3 in omega (arith, first)) (subst (λ v. SpellSteps v s) q.2 p.1))
one_body lines b c s u (inr p) (inl q) = absurd (steps_or_letter p.0 p.1 u (let first = buckets_letter p.0 b p.3 in omega (arith, first)) (subst (λ v. SpellSteps v u) p.2 q.1))
one_body lines b c s u (inr p) (inr q) =
    let first : p.0 ≡ q.0 = ap (λ v. get_or v 0 []) (sym p.2 ∙ q.2) in
    let rest : p.1 ≡ q.1 = ap (drop 1) (sym p.2 ∙ q.2) in
    record {
      same = one_buckets q.0 b c (subst (λ v. SpellsBuckets v b) first p.3) q.3;
      lines = q.1;
      one = subst (λ v. SpellSteps v s) rest p.4;
      other = q.4;
    }

-- lines whose first spells limits spell no steps, and no number of buckets with steps
body_or_limits : (line : List ℕ) (rest : List (List ℕ)) (l : Bounds) (b : ℕ) (s : Script) → SpellsLimits line l → SpellBody (line ∷ rest) b s → ⊥
body_or_limits line rest l b s p (inl h) = steps_or_letter line rest s (let first = limits_letter line l p in omega (arith, first)) h.1
body_or_limits line rest l b s p (inr h) =
    let same : line ≡ h.0 = ap (λ v. get_or v 0 []) h.2 in
    let one = limits_letter line l p in
    let other = buckets_letter line b (subst (λ v. SpellsBuckets v b) (sym same) h.3) in
    omega (arith, one, other)

one_script : (lines : List (List ℕ)) (l m : Bounds) (b c : ℕ) (s u : Script) → SpellScript lines l b s → SpellScript lines m c u → (l ≡ m) × SameSteps b c s u
one_script lines l m b c s u (inl p) (inl q) = (p.0 ∙ sym q.0, one_body lines b c s u p.1 q.1)
one_script lines l m b c s u (inl p) (inr q) = absurd (body_or_limits q.0 q.1 m b s q.3 (subst (λ v. SpellBody v b s) q.2 p.1))
one_script lines l m b c s u (inr p) (inl q) = absurd (body_or_limits p.0 p.1 l c u p.3 (subst (λ v. SpellBody v c u) p.2 q.1))
one_script lines l m b c s u (inr p) (inr q) =
    let first : p.0 ≡ q.0 = ap (λ v. get_or v 0 []) (sym p.2 ∙ q.2) in
    let rest : p.1 ≡ q.1 = ap (drop 1) (sym p.2 ∙ q.2) in
    (one_limits q.0 l m (subst (λ v. SpellsLimits v l) first p.3) q.3, one_body q.1 b c s u (subst (λ v. SpellBody v b s) rest p.4) q.4)

module _ (t : Tables) (l m : Bounds) (b c : ℕ) (s u : Script) (x y : List ℕ) (p : IsOutput t l b s x) (q : IsOutput t m c u y) where
  one_of_run : (l ≡ m) × SameSteps b c s u → x ≡ y
  one_of_run both =
      let lines = both.1 in
      let opens : opening l (2 ^ b) ≡ opening m (2 ^ c) = ap (λ limits. opening limits (2 ^ b)) both.0 ∙ ap (λ (bits : ℕ). opening m (2 ^ bits)) lines.same in
      let same = one_run t lines.lines s u lines.one lines.other p.run.appended q.run.appended (sym (ap length p.run.is) ∙ p.all) (sym (ap length q.run.is) ∙ q.all)
      (opening m (2 ^ c)) p.world q.world (subst (λ (w : World). Leads t w (events_of s p.run.appended) p.world) opens p.run.leads) q.run.leads in
      p.is ∙ ap (λ rs. output_of rs p.world) (p.run.is ∙ same.0 ∙ sym q.run.is) ∙ ap (λ w. output_of q.replies w) same.1 ∙ sym q.is

pub one_output : (t : Tables) (bytes x y : List ℕ) → IsReplay t bytes x → IsReplay t bytes y → x ≡ y
one_output t bytes x y p q =
    one_of_run t p.limits q.limits p.bits q.bits p.steps q.steps x y p.run q.run (one_script (script_lines bytes) p.limits q.limits p.bits q.bits p.steps q.steps p.spelled q.spelled)
