-- Lines as numbers at the front of a buffer. Assumes nothing.
use mathlib.Core.Path.{◌≡◌, refl, sym, ap, ap₂, ◌∙◌, subst}
use mathlib.Core.List.{List, [], ◌∷◌, ◌++◌, append_assoc, append-nil}
use Prim.Native.Nat.{ℕ, suc, ◌+◌, ◌*◌, ◌≤◌}
use native.Mathlib.Nat.{add-zero, zero-add}
use native.Mathlib.Omega.{arith}
use lib.ListN.{length, take, drop, set, length-append, length-drop, take-append-drop}
use lib.Seq.{take_at, drop_at, drop-drop, length-take-le, sets-eq}
use Rattle.differences.specs.declared.line.Line.{Line}
use Rattle.differences.specs.Differences.{lines_from}
use Rattle.differences.specs.Numbers.{head_number, line_numbers, lines_numbers, front_filled}
use Rattle.difflist.specs.Served.Placed.{placed, Placed}
use Rattle.differences.proofs.LineLaws.{lines_add}
use Rattle.diff.proofs.FewLaws.{from_few}

one_index : (g : ℕ → List Line) (i : ℕ) → lines_from g i 1 ≡ g i
unfolding lines_from
one_index g i = append-nil (g i)

pub numbers_length : (ls : List Line) → length (lines_numbers ls) ≡ 3 * length ls
unfolding lines_numbers
numbers_length [] = refl
numbers_length (l ∷ ls) = let e = numbers_length ls in omega (arith, e)

numbers_one : (l : Line) → lines_numbers (l ∷ []) ≡ line_numbers l
unfolding lines_numbers
numbers_one l = refl

numbers_append : (t u : List Line) → lines_numbers (t ++ u) ≡ lines_numbers t ++ lines_numbers u
unfolding lines_numbers
numbers_append [] u = refl
numbers_append (l ∷ t) u = ap (λ (x : List ℕ). line_numbers l ++ x) (numbers_append t u) ∙ sym (append_assoc (line_numbers l) (lines_numbers t) (lines_numbers u))

-- ---- lines that are put after others

pub none_placed : (k : ℕ) (out : List ℕ) → Placed [] k out out k
unfolding placed lines_numbers
none_placed k out = record { counts = sym (add-zero k); fills = sym (rw (add-zero k) (take-append-drop (3 * k) out)) }

-- three numbers in a row
pub line_placed : (l : Line) (k : ℕ) (out : List ℕ) → 3 * (k + 1) ≤ length out
    → set (set (set out (3 * k) (head_number l)) (3 * k + 1) l.first) (3 * k + 2) l.second ≡ placed k (l ∷ []) out
unfolding placed
line_placed l k out h =
    let i = 3 * k in
    let e : i + 1 ≡ suc i = omega arith in
    let f : i + 2 ≡ suc (suc i) = omega arith in
    let g : 3 * (k + 1) ≡ i + 3 = omega arith in
    rw (e, f, g, numbers_one l) (sets-eq (line_numbers l) out i (omega (arith, h)) ∙ append_assoc (take i out) (line_numbers l) (drop (i + 3) out))

module _ {t : List Line} {k j : ℕ} {o m : List ℕ} (p : Placed t k o m j) where
  pub placed_long : 3 * j ≤ length o → length m ≡ length o
  unfolding placed
  placed_long h =
      let e = numbers_length t in
      let c = p.counts in
      let x = length-append (take (3 * k) o) (lines_numbers t ++ drop (3 * (k + length t)) o) in
      let y = length-append (lines_numbers t) (drop (3 * (k + length t)) o) in
      let z = length-drop (3 * (k + length t)) o in
      let w = length-take-le (3 * k) o (omega (arith, c, h)) in
      ap length p.fills ∙ omega (arith, e, c, h, x, y, z, w)

  -- some lines, and others after them
  pub placed_next : {u : List Line} {r : ℕ} {a : List ℕ} → Placed u j m a r → 3 * j ≤ length o → Placed (t ++ u) k o a r
  unfolding placed
  placed_next {u} q h =
      let nt = lines_numbers t in
      let nu = lines_numbers u in
      let c = p.counts in
      let front = take (3 * k) o ++ nt in
      let back = drop (3 * (k + length t)) o in
      let w = length-take-le (3 * k) o (omega (arith, c, h)) in
      let l : length front ≡ 3 * j = length-append (take (3 * k) o) nt ∙ omega (arith, w, numbers_length t, c) in
      let f : m ≡ front ++ back = p.fills ∙ sym (append_assoc (take (3 * k) o) nt back) in
      let x : take (3 * j) m ≡ front = ap (take (3 * j)) f ∙ take_at front back (3 * j) l in
      let s : 3 * (j + length u) ≡ 3 * j + 3 * length u = omega arith in
      let z : 3 * (k + length t) + 3 * length u ≡ 3 * (k + length (t ++ u)) = omega (arith, length-append t u) in
      let y : drop (3 * (j + length u)) m ≡ drop (3 * (k + length (t ++ u))) o =
      ap (λ (n : ℕ). drop n m) s ∙ sym (drop-drop (3 * length u) (3 * j) m) ∙ ap (drop (3 * length u)) (ap (drop (3 * j)) f ∙ drop_at front back (3 * j) l)
      ∙ drop-drop (3 * length u) (3 * (k + length t)) o ∙ ap (λ (n : ℕ). drop n o) z in
      record {
        counts = q.counts ∙ omega (arith, c, length-append t u);
        fills = q.fills ∙ ap₂ (λ (v w : List ℕ). v ++ (nu ++ w)) x y ∙ append_assoc (take (3 * k) o) nt _
            ∙ ap (λ (v : List ℕ). take (3 * k) o ++ v) (sym (append_assoc nt nu _) ∙ ap (λ (v : List ℕ). v ++ drop (3 * (k + length (t ++ u))) o) (sym (numbers_append t u)));
      }

-- the lines of one index more
pub index_placed : (g : ℕ → List Line) (i n k : ℕ) {j r : ℕ} {o m a : List ℕ} → Placed (lines_from g i n) k o m j → Placed (g (i + n)) j m a r
    → 3 * j ≤ length o → Placed (lines_from g i (n + 1)) k o a r
index_placed g i n k {j} {r} {o} {m} {a} p q h = subst (λ (l : List Line). Placed l k o a r) (sym (lines_add g i n 1 ∙ ap (λ (l : List Line). lines_from g i n ++ l) (one_index g (i + n)))) (placed_next p q h)

-- the same from index 0
pub next_placed : (g : ℕ → List Line) (n k : ℕ) {j r : ℕ} {o m a : List ℕ} → Placed (lines_from g 0 n) k o m j → Placed (g n) j m a r
    → 3 * j ≤ length o → Placed (lines_from g 0 (n + 1)) k o a r
next_placed g n k {j} {r} {o} {m} {a} p q h = index_placed g 0 n k p (subst (λ (i : ℕ). Placed (g i) j m a r) (sym (zero-add n)) q) h

pub no_index : (g : ℕ → List Line) (i k : ℕ) (out : List ℕ) → Placed (lines_from g i 0) k out out k
unfolding lines_from
no_index g i k out = none_placed k out

-- at the front
pub front_placed : {ls : List Line} {o a : List ℕ} {r : ℕ} → Placed ls 0 o a r → (r ≡ length ls) × (a ≡ front_filled ls o)
unfolding placed
front_placed {ls} {o} p =
    let e : 3 * (0 + length ls) ≡ length (lines_numbers ls) = omega (arith, numbers_length ls) in
    (p.counts ∙ zero-add (length ls), p.fills ∙ ap (λ (n : ℕ). lines_numbers ls ++ drop n o) e)

-- n indexes of b lines at most, where there is room for them
pub index_room : (g : ℕ → List Line) (b : ℕ) → ((x : ℕ) → length (g x) ≤ b) → (i n k : ℕ) {j : ℕ} {o m : List ℕ} → Placed (lines_from g i n) k o m j
    → 3 * (k + b * n) ≤ length o → (j ≤ k + b * n) × (length m ≡ length o)
index_room g b f i n k {j} p h =
    let e = from_few g b f n i in
    let c = p.counts in
    let q : j ≤ k + b * n = omega (arith, e, c) in
    (q, placed_long p (omega (arith, q, h)))
