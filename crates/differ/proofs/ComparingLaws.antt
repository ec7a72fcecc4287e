-- How an input is parted, and how the lines are sent in turn. Assumes nothing.
use Rattle.std.specs.Prelude.{Some, Ok}
use mathlib.Core.Path.{◌≡◌, refl, sym, ap, ap₂, ◌∙◌}
use mathlib.Core.Bool.{Bool, true, false}
use mathlib.Core.List.{List, [], ◌∷◌}
use Prim.Native.Nat.{ℕ, zero, suc, ◌+◌, ◌-◌, ◌<◌, ◌≤◌, min}
use native.Mathlib.Omega.{arith}
use borrow.Author.Tests.{ltb-true, ltb-false}
use lib.Dec.{ltb}
use lib.ListN.{length, take, drop, length-drop, drop_of_length-le}
use lib.Seq.{take_all, drop-drop}
use Rattle.bits.specs.Lists.{kth}
use Rattle.bits.specs.Outcomes.{refuses}
use Rattle.differences.specs.declared.line.Line.{Line}
use Rattle.differences.specs.declared.answer.Unread.{Unread}
use Rattle.differences.specs.Differences.{version_lines, content_lines, differences}
use Rattle.differences.specs.Answers.{both_read}
use Rattle.diff.proofs.AnswerLaws.{after_version}
use Rattle.input.specs.Input.{Input}
use Rattle.differ.specs.Comparing.{length_in, ready, listed, Parted}

-- a list has no bytes after its end
module _ (n : ℕ) (l : List ℕ) where
  up_to : take (min n (length l)) l ≡ take n l
  up_to = go (ltb n (length l)) refl
    where
      go : (t : Bool) → ltb n (length l) ≡ t → take (min n (length l)) l ≡ take n l
      go true e =
          let h = ltb-true n (length l) e in
          let m : min n (length l) ≡ n = omega arith in
          ap (λ (k : ℕ). take k l) m
      go false e =
          let h = ltb-false n (length l) e in
          take_all (min n (length l)) l (omega arith) ∙ sym (take_all n l h)

  beyond : drop (min n (length l)) l ≡ drop n l
  beyond = go (ltb n (length l)) refl
    where
      go : (t : Bool) → ltb n (length l) ≡ t → drop (min n (length l)) l ≡ drop n l
      go true e =
          let h = ltb-true n (length l) e in
          let m : min n (length l) ≡ n = omega arith in
          ap (λ (k : ℕ). drop k l) m
      go false e =
          let h = ltb-false n (length l) e in
          drop_of_length-le l {i = min n (length l)} (omega arith) ∙ sym (drop_of_length-le l {i = n} h)

module _ {input : Input} (s : List ℕ) (e : input ≡ Ok (length s)) where
  -- an input that is too short for a length
  pub none_parted : length s < 8 → Parted input s [] []
  none_parted h =
      let d : drop 8 s ≡ [] = drop_of_length-le s {i = 8} (omega arith) in
      record { all = e; front = sym (ap (take (length_in s)) d ∙ nothing_taken (length_in s)); rest = sym (ap (drop (length_in s)) d ∙ nothing_dropped (length_in s)) }
    where
      nothing_taken : (n : ℕ) → ◌≡◌ {A = List ℕ} (take n []) []
      nothing_taken zero = refl
      nothing_taken (suc n) = refl

      nothing_dropped : (n : ℕ) → ◌≡◌ {A = List ℕ} (drop n []) []
      nothing_dropped zero = refl
      nothing_dropped (suc n) = refl

  pub parted : 8 ≤ length s → {end : ℕ} → end ≡ 8 + min (length_in s) (length s - 8)
      → Parted input s (take (end - 8) (drop 8 s)) (take (length s - end) (drop end s))
  parted h {end} q =
      let l = length-drop 8 s in
      let m : end - 8 ≡ min (length_in s) (length (drop 8 s)) = omega (arith, l, q) in
      let n : end ≡ 8 + min (length_in s) (length (drop 8 s)) = omega (arith, l, q) in
      record {
        all = e;
        front = ap (λ (k : ℕ). take k (drop 8 s)) m ∙ up_to (length_in s) (drop 8 s);
        rest =
            take_all (length s - end) (drop end s) (omega (arith, length-drop end s))
            ∙ ap (λ (k : ℕ). drop k s) n
            ∙ sym (drop-drop (min (length_in s) (length (drop 8 s))) 8 s)
            ∙ beyond (length_in s) (drop 8 s);
      }

module _ {input : Input} {s first second : List ℕ} (p : Parted input s first second) where
  -- what is told of the two is told of the input
  same_lines : differences first second ≡ listed s
  same_lines = ap₂ differences p.front p.rest

  pub line_in : (k : ℕ) {l : Line} → kth (differences first second) k ≡ Some l → kth (listed s) k ≡ Some l
  line_in k e = ap (λ (ls : List Line). kth ls k) (sym same_lines) ∙ e

  pub count_in : {k : ℕ} → k ≡ length (differences first second) → k ≡ length (listed s)
  count_in e = e ∙ ap length same_lines

  pub unready : {u : Unread} → refuses u ≡ both_read first second → ready s ≡ refuses u
  unready e = ap₂ both_read (sym p.front) (sym p.rest) ∙ sym e

-- after the line of the versions, if there is one, what the containers hold is left
module _ (a b : List ℕ) where
  pub versions_told : {l : Line} → l ∷ [] ≡ version_lines a b → (1 ≤ length (differences a b)) × (content_lines a b ≡ drop 1 (differences a b))
  versions_told e = let f = after_version a b e in (omega (arith, ap length f), ap (drop 1) f)

  pub versions_same : [] ≡ version_lines a b → content_lines a b ≡ drop 0 (differences a b)
  versions_same e = after_version a b e

-- one of the lines from k on, and those after it
pub at_line : (all : List Line) {rest : List Line} {l : Line} (k : ℕ) → l ∷ rest ≡ drop k all → (kth all k ≡ Some l) × (k < length all) × (rest ≡ drop (k + 1) all)
unfolding kth
at_line [] zero e = absurd (omega (arith, ap length e))
at_line [] (suc k) e = absurd (omega (arith, ap length e))
at_line (x ∷ all) zero e = (cc, omega arith, cc)
at_line (x ∷ all) (suc k) e =
    let r = at_line all k e in
    let n : suc k + 1 ≡ suc (k + 1) = omega arith in
    (r.0, omega (arith, r.1), r.2 ∙ ap (λ (j : ℕ). drop j (x ∷ all)) (sym n))

-- there are none
pub at_end : (all : List Line) (k : ℕ) → k ≤ length all → [] ≡ drop k all → k ≡ length all
at_end all k h e = omega (arith, h, ap length e ∙ length-drop k all)
