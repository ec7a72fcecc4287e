-- Laws of slots, for any place and width: a word put together and taken apart, and its mask. Assumes nothing.
use mathlib.Core.Path.{◌≡◌, refl, sym, ap, ap₂, ◌∙◌}
use mathlib.Core.Bool.{Bool, true, false, ◌&&◌, ◌||◌}
use mathlib.Core.List.{List, [], ◌∷◌}
use Prim.Native.Nat.{ℕ, zero, suc, ◌+◌, ◌-◌, ◌*◌, ◌/◌, ◌%◌, ◌^◌, ◌≤◌, ◌<◌}
use native.Mathlib.Nat.{mod-lt, mod-one, mul_assoc, mul_comm, mul-add, add-mul, add-suc, not-suc-le-zero, le_of_suc-le-suc, one-mul, le_of_eq, pow-suc, mul-mod_left, div-eq_of_lt, sub-add_cancel, add_comm, add_assoc, mod-eq_of_lt, lt_of_lt_of_le, add-zero, zero-add, zero-mul, two-pow-succ}
use native.Mathlib.Omega.{arith}
use lib.Dec.{T, leb, ltb, eqb, leb→le, ltb→lt, lt→ltb}
use lib.ListN.{length, get_or, drop, drop_of_length-le}
use lib.Seq.{drop-cons, drop-length}
use lib.Arith.{digits_lt}
use borrow.Author.Tests.{lt-leb, le-ltb, leb-true, leb-false, eqb-true, ltb-true, ltb-false}
use native.Mathlib.Numerals.{one-add}
use lib.Pow.{pow_pos, pow_mono, pow-add, high, low, mod-pow-add, shl_exact, ones_split, ones_lt, shr-shr}
use Rattle.bits.specs.Fields.{bits, Slot, split, join, fit, inside, assigned, apart, ones, mask}
use Rattle.bits.specs.Sets.{has}
use Rattle.bits.proofs.Every.{and_both, and_l, and_r}

-- a multiple of a higher power is one of a lower
pub shifted : (r l n : ℕ) → r * 2 ^ (l + n) ≡ r * 2 ^ n * 2 ^ l
shifted r l n = rw (pow-add 2 l n, mul_comm (2 ^ l) (2 ^ n), mul_assoc)

-- a number in its slot, above anything lower and below any multiple of what is higher
pub middle : (a v r l n : ℕ) → a < 2 ^ l → v < 2 ^ n → bits (a + (v * 2 ^ l + r * 2 ^ (l + n))) l n ≡ v
middle a v r l n ha hv =
    let e : a + (v * 2 ^ l + r * 2 ^ (l + n)) ≡ (r * 2 ^ n + v) * 2 ^ l + a =
    omega (arith, shifted r l n, add-mul (r * 2 ^ n) v (2 ^ l)) in
    rw (e, high (r * 2 ^ n + v) l ha, low r n hv)

-- the tests, as rules to go by
pub data Apart : ℕ → List Slot → Type 0 where
  done : {pos : ℕ} → pos ≤ 64 → Apart pos []
  absent : {pos : ℕ} {s : Slot} {ss : List Slot} → s.width ≡ 0 → Apart pos ss → Apart pos (s ∷ ss)
  next : {pos : ℕ} {s : Slot} {ss : List Slot} → pos ≤ s.low → Apart (s.low + s.width) ss → Apart pos (s ∷ ss)

pub data Fit : List Slot → List ℕ → Type 0 where
  none : Fit [] []
  some : {s : Slot} {ss : List Slot} {v : ℕ} {vs : List ℕ} → v < 2 ^ s.width → Fit ss vs → Fit (s ∷ ss) (v ∷ vs)

pub apart_rule : (pos : ℕ) (ss : List Slot) → T (apart pos ss) → Apart pos ss
unfolding apart
apart_rule pos [] t = done (leb→le pos 64 t)
apart_rule pos (s ∷ ss) t = go (apart_rule pos ss) (apart_rule (s.low + s.width) ss) (eqb s.width 0) refl t
  where
    go : (T (apart pos ss) → Apart pos ss) → (T (apart (s.low + s.width) ss) → Apart (s.low + s.width) ss)
        → (b : Bool) → eqb s.width 0 ≡ b → T (elim b [ true ↦ apart pos ss | false ↦ leb pos s.low && apart (s.low + s.width) ss ])
        → Apart pos (s ∷ ss)
    go f g true e h = absent (eqb-true s.width 0 e) (f h)
    go f g false e h =
        next (leb→le pos s.low (and_l (leb pos s.low) (apart (s.low + s.width) ss) h))
        (g (and_r (leb pos s.low) (apart (s.low + s.width) ss) h))

pub fit_rule : (ss : List Slot) (vs : List ℕ) → T (fit ss vs) → Fit ss vs
unfolding fit
fit_rule [] [] t = none
fit_rule [] (v ∷ vs) t = absurd t
fit_rule (s ∷ ss) [] t = absurd t
fit_rule (s ∷ ss) (v ∷ vs) t =
    some (ltb→lt v (2 ^ s.width) (and_l (ltb v (2 ^ s.width)) (fit ss vs) t)) (fit_rule ss vs (and_r (ltb v (2 ^ s.width)) (fit ss vs) t))

-- a word put together: what stands at the slots is what was put there

-- a number of no bits is 0
pub no_room : {v n : ℕ} → v < 2 ^ n → n ≡ 0 → v ≡ 0
no_room {v} h e = let h' : v < 1 = rw e at h in omega arith

-- a power, times a lower one
lifted : (x : ℕ) {l pos : ℕ} → pos ≤ l → x * 2 ^ l ≡ x * 2 ^ (l - pos) * 2 ^ pos
lifted x {l} {pos} h = rw (mul_assoc x (2 ^ (l - pos)) (2 ^ pos), ← pow-add 2 (l - pos) pos, sub-add_cancel h)

-- two numbers, side by side
beside : (v r l n : ℕ) → v * 2 ^ l + r * 2 ^ (l + n) ≡ (v + r * 2 ^ n) * 2 ^ l
beside v r l n = rw (shifted r l n, add-mul v (r * 2 ^ n) (2 ^ l))

-- numbers at slots from bit pos up make a multiple of 2 ^ pos
pub multiple : {pos : ℕ} {ss : List Slot} {vs : List ℕ} → Apart pos ss → Fit ss vs → (r : ℕ) × (join ss vs ≡ r * 2 ^ pos)
unfolding join
multiple {pos} (done h) none = (0, sym (zero-mul (2 ^ pos)))
multiple {pos} (absent {s = s} {ss = ss} e a) (some {v = v} {vs = vs} h f) =
    let (r, q) = multiple a f in
    (r, rw (no_room h e, zero-mul (2 ^ s.low), zero-add (join ss vs)) q)
multiple {pos} (next {s = s} {ss = ss} l a) (some {v = v} {vs = vs} h f) =
    let (r, q) = multiple a f in
    ((v + r * 2 ^ s.width) * 2 ^ (s.low - pos), rw (q, beside v r s.low s.width) (lifted (v + r * 2 ^ s.width) l))

-- what lies below a slot's end: what lies below its start, and its number
pub below_end : {a v : ℕ} (l n : ℕ) → a < 2 ^ l → v < 2 ^ n → a + v * 2 ^ l < 2 ^ (l + n)
below_end {a} {v} l n ha hv =
    rw (pow-add 2 l n, mul_comm (2 ^ l) (2 ^ n), add_comm a (v * 2 ^ l)) (digits_lt hv ha)

-- the numbers of a word that was put together from bit pos up, above a part that lies below pos
pub split_above : {pos : ℕ} {ss : List Slot} {vs : List ℕ} (a : ℕ) → a < 2 ^ pos → Apart pos ss → Fit ss vs → split ss (a + join ss vs) ≡ vs
unfolding join split
split_above a ha (done h) none = refl
split_above a ha (absent {s = s} {ss = ss} e p) (some {v = v} {vs = vs} h f) =
    ap₂ (λ (x : ℕ) (xs : List ℕ). x ∷ xs)
    (rw (e, no_room h e) (mod-one _))
    (rw (no_room h e, zero-mul (2 ^ s.low), zero-add (join ss vs)) (split_above a ha p f))
split_above a ha (next {s = s} {ss = ss} l p) (some {v = v} {vs = vs} h f) =
    let ha' : a < 2 ^ s.low = lt_of_lt_of_le ha (pow_mono l) in
    let (r, q) = multiple p f in
    ap₂ (λ (x : ℕ) (xs : List ℕ). x ∷ xs)
    (rw q (middle a v r s.low s.width ha' h))
    (rw (← add_assoc a (v * 2 ^ s.low) (join ss vs)) (split_above (a + v * 2 ^ s.low) (below_end s.low s.width ha' h) p f))

pub split_join : {ss : List Slot} {vs : List ℕ} → Apart 0 ss → Fit ss vs → split ss (join ss vs) ≡ vs
split_join {ss} {vs} p f = rw zero-add at (split_above 0 (pow_pos 0) p f)

-- a word taken apart: a word with no bit outside its slots is what its numbers make

-- each bit of w from `pos` up that is in no slot is 0
abbrev pub Clean : ℕ → List Slot → ℕ → Type 0
Clean pos ss w = (b : ℕ) → pos ≤ b → assigned ss b ≡ false → bits w b 1 ≡ 0

-- bits that are 0 may be left out
gap : (w lo n : ℕ) → ((b : ℕ) → lo ≤ b → b < lo + n → bits w b 1 ≡ 0) → w % 2 ^ (lo + n) ≡ w % 2 ^ lo
gap w lo zero h = rw add-zero
gap w lo (suc n) h =
    let ih : w % 2 ^ (lo + n) ≡ w % 2 ^ lo = gap w lo n (λ b l u. h b l (rw add-suc (omega arith))) in
    let z : w / 2 ^ (lo + n) % 2 ^ 1 ≡ 0 = h (lo + n) (omega arith) (rw add-suc (omega arith)) in
    rw (add-suc lo n, ← one-add (lo + n), mod-pow-add w 1 (lo + n), z, zero-mul (2 ^ (lo + n)), zero-add) ih

and_false : (a : Bool) → a && false ≡ false
and_false true = refl
and_false false = refl

outside_below : (s : Slot) (b : ℕ) → b < s.low → inside s b ≡ false
outside_below s b h = rw (lt-leb s.low b h)

outside_above : (s : Slot) (b : ℕ) → s.low + s.width ≤ b → inside s b ≡ false
outside_above s b h = rw (le-ltb b (s.low + s.width) h, and_false)

pub outside_absent : (s : Slot) (b : ℕ) → s.width ≡ 0 → inside s b ≡ false
outside_absent s b e = go (leb s.low b) refl
  where
    go : (t : Bool) → leb s.low b ≡ t → inside s b ≡ false
    go true h = outside_above s b (omega (arith, leb-true s.low b h))
    go false h = outside_below s b (leb-false s.low b h)

-- no slot from pos up has a bit below pos
pub under : {pos : ℕ} {ss : List Slot} → Apart pos ss → (b : ℕ) → b < pos → assigned ss b ≡ false
unfolding assigned
under (done h) b l = refl
under (absent {s = s} {ss = ss} e p) b l = rw (outside_absent s b e) (under p b l)
under (next {s = s} {ss = ss} q p) b l = rw (outside_below s b (omega arith)) (under p b (omega arith))

pub join_above : {pos : ℕ} {ss : List Slot} (w : ℕ) → w < 2 ^ 64 → Apart pos ss → Clean pos ss w → w % 2 ^ pos + join ss (split ss w) ≡ w
unfolding join split assigned
join_above {pos} w hw (done h) k =
    let n : ℕ = 64 - pos in
    let e : pos + n ≡ 64 = omega arith in
    let g : w % 2 ^ (pos + n) ≡ w % 2 ^ pos = gap w pos n (λ b l u. k b l refl) in
    rw (add-zero, ← g, e) (mod-eq_of_lt hw)
join_above {pos} w hw (absent {s = s} {ss = ss} e p) k =
    rw (e, mod-one, zero-mul (2 ^ s.low), zero-add)
    (join_above w hw p (λ b l z. k b l (rw (outside_absent s b e) z)))
join_above {pos} w hw (next {s = s} {ss = ss} q p) k =
    let n : ℕ = s.low - pos in
    let e : pos + n ≡ s.low = omega arith in
    let g : w % 2 ^ (pos + n) ≡ w % 2 ^ pos =
    gap w pos n (λ b l u. k b l (rw (outside_below s b (omega arith)) (under p b (omega arith)))) in
    let g' : w % 2 ^ s.low ≡ w % 2 ^ pos = rw e at g in
    let m : w % 2 ^ (s.low + s.width) ≡ bits w s.low s.width * 2 ^ s.low + w % 2 ^ s.low =
    rw (add_comm s.low s.width) (mod-pow-add w s.width s.low) in
    let ih : w % 2 ^ (s.low + s.width) + join ss (split ss w) ≡ w =
    join_above w hw p (λ b l z. k b (omega arith) (rw (outside_above s b l) z)) in
    omega arith

pub join_split : {ss : List Slot} (w : ℕ) → w < 2 ^ 64 → Apart 0 ss → Clean 0 ss w → join ss (split ss w) ≡ w
join_split {ss} w hw p k = rw (mod-one, zero-add) at (join_above w hw p k)

-- a word put together, number by number

join_lt_above : {pos : ℕ} {ss : List Slot} {vs : List ℕ} (a : ℕ) → a < 2 ^ pos → Apart pos ss → Fit ss vs → a + join ss vs < 2 ^ 64
unfolding join
join_lt_above a ha (done h) none = rw add-zero (lt_of_lt_of_le ha (pow_mono h))
join_lt_above a ha (absent {s = s} {ss = ss} e p) (some {v = v} {vs = vs} h f) =
    rw (no_room h e, zero-mul (2 ^ s.low), zero-add (join ss vs)) (join_lt_above a ha p f)
join_lt_above a ha (next {s = s} {ss = ss} l p) (some {v = v} {vs = vs} h f) =
    rw (← add_assoc a (v * 2 ^ s.low) (join ss vs))
    (join_lt_above (a + v * 2 ^ s.low) (below_end s.low s.width (lt_of_lt_of_le ha (pow_mono l)) h) p f)

pub join_lt : {ss : List Slot} {vs : List ℕ} → Apart 0 ss → Fit ss vs → join ss vs < 2 ^ 64
join_lt {ss} {vs} p f = rw (← zero-add (join ss vs)) (join_lt_above 0 (pow_pos 0) p f)

pub join_step : (ss : List Slot) (vs : List ℕ) (i : ℕ) (d : Slot) → i < length ss → i < length vs
    → join (drop i ss) (drop i vs) ≡ get_or vs i 0 * 2 ^ (get_or ss i d).low + join (drop (suc i) ss) (drop (suc i) vs)
unfolding join
join_step ss vs i d hs hv = rw (drop-cons ss i d hs, drop-cons vs i 0 hv)

pub join_end : (ss : List Slot) (vs : List ℕ) (i : ℕ) → length ss ≡ i → join (drop i ss) (drop i vs) ≡ 0
unfolding join
join_end ss vs i e = rw (← e, drop-length ss)

-- a word put together has no bit outside its slots

-- bit b of a number below 2 ^ b, and of a multiple of a higher power above it, is 0
blank : (a r b l : ℕ) → a < 2 ^ b → b < l → bits (a + r * 2 ^ l) b 1 ≡ 0
blank a r b l ha hl =
    let e : r * 2 ^ l ≡ r * 2 ^ (l - suc b) * 2 * 2 ^ b =
    rw (mul_assoc (r * 2 ^ (l - suc b)) 2 (2 ^ b), mul_comm 2 (2 ^ b), ← pow-suc 2 b) (lifted r hl) in
    rw (e, add_comm a (r * 2 ^ (l - suc b) * 2 * 2 ^ b), high (r * 2 ^ (l - suc b) * 2) b ha) (mul-mod_left (r * 2 ^ (l - suc b)) 2)

pub join_blank_above : {pos : ℕ} {ss : List Slot} {vs : List ℕ} (a b : ℕ) → a < 2 ^ pos → pos ≤ b → Apart pos ss → Fit ss vs → assigned ss b ≡ false
    → bits (a + join ss vs) b 1 ≡ 0
unfolding join assigned
join_blank_above a b ha hb (done h) none u =
    rw (add-zero a, div-eq_of_lt (lt_of_lt_of_le ha (pow_mono hb)))
join_blank_above {pos} a b ha hb (absent {s = s} {ss = ss} e p) (some {v = v} {vs = vs} h f) u =
    rw (no_room h e, zero-mul (2 ^ s.low), zero-add (join ss vs)) (join_blank_above a b ha hb p f (rw (outside_absent s b e) at u))
join_blank_above {pos} a b ha hb (next {s = s} {ss = ss} l p) (some {v = v} {vs = vs} h f) u =
    go (λ l z. join_blank_above (a + v * 2 ^ s.low) b (below_end s.low s.width ha' h) l p f z) (leb s.low b) refl (ltb b (s.low + s.width)) refl u
  where
    ha' : a < 2 ^ s.low
    ha' = lt_of_lt_of_le ha (pow_mono l)

    go : (s.low + s.width ≤ b → assigned ss b ≡ false → bits (a + v * 2 ^ s.low + join ss vs) b 1 ≡ 0)
        → (t : Bool) → leb s.low b ≡ t → (t' : Bool) → ltb b (s.low + s.width) ≡ t' → t && t' || assigned ss b ≡ false
        → bits (a + (v * 2 ^ s.low + join ss vs)) b 1 ≡ 0
    go ih true q true q' z = let y : ◌≡◌ {A = ℕ} 0 1 = cc in absurd (omega arith)
    go ih true q false q' z = rw (← add_assoc a (v * 2 ^ s.low) (join ss vs)) (ih (ltb-false b (s.low + s.width) q') z)
    go ih false q t' q' z =
        let (r, e) = multiple p f in
        rw (e, beside v r s.low s.width)
        (blank a (v + r * 2 ^ s.width) b s.low (lt_of_lt_of_le ha (pow_mono hb)) (leb-false s.low b q))

pub join_blank : {ss : List Slot} {vs : List ℕ} (b : ℕ) → Apart 0 ss → Fit ss vs → assigned ss b ≡ false → bits (join ss vs) b 1 ≡ 0
join_blank {ss} {vs} b p f u = rw (← zero-add (join ss vs)) (join_blank_above 0 b (pow_pos 0) (omega arith) p f u)

-- room, number by number

pub fit_hit : (ss : List Slot) (vs : List ℕ) (i : ℕ) (d : Slot) → i < length ss → i < length vs → ltb (get_or vs i 0) (2 ^ (get_or ss i d).width) ≡ true
    → fit (drop i ss) (drop i vs) ≡ fit (drop (suc i) ss) (drop (suc i) vs)
unfolding fit
fit_hit ss vs i d hs hv e = rw (drop-cons ss i d hs, drop-cons vs i 0 hv, e)

pub fit_miss : (ss : List Slot) (vs : List ℕ) (i : ℕ) (d : Slot) → i < length ss → i < length vs → ltb (get_or vs i 0) (2 ^ (get_or ss i d).width) ≡ false
    → fit (drop i ss) (drop i vs) ≡ false
unfolding fit
fit_miss ss vs i d hs hv e = rw (drop-cons ss i d hs, drop-cons vs i 0 hv, e)

pub fit_end : (ss : List Slot) (vs : List ℕ) (i : ℕ) → length ss ≡ i → length vs ≡ i → fit (drop i ss) (drop i vs) ≡ true
unfolding fit
fit_end ss vs i es ev = rw (drop_of_length-le ss (le_of_eq es), drop_of_length-le vs (le_of_eq ev))

-- `1 << k` is `2 ^ k`
pub one_shl : (k : ℕ) → k < 64 → (1 * 2 ^ k) % 2 ^ 64 ≡ 2 ^ k
one_shl k h = shl_exact 1 k 64 (omega arith) (omega arith) ∙ one-mul (2 ^ k)

-- a number that has room is below its slot's power
pub fit_at : {ss : List Slot} {vs : List ℕ} → Fit ss vs → (i : ℕ) (d : Slot) → i < length ss → get_or vs i 0 < 2 ^ (get_or ss i d).width
fit_at none i d h = absurd (not-suc-le-zero h)
fit_at (some l f) zero d h = l
fit_at (some l f) (suc i) d h = fit_at f i d (le_of_suc-le-suc h)

-- the mask of the bits that are in a slot

pub ones_fit : (ss : List Slot) → Fit ss (ones ss)
unfolding ones
ones_fit [] = none
ones_fit (s ∷ ss) = some (ones_lt s.width) (ones_fit ss)

-- bit j of n ones, with anything above them
one_of : (r n j : ℕ) → j < n → (r * 2 ^ n + (2 ^ n - 1)) / 2 ^ j % 2 ≡ 1
one_of r n j h =
    let i : ℕ = n - suc j in
    let e : suc i + j ≡ n = omega arith in
    let o : 2 ^ n - 1 ≡ (2 ^ suc i - 1) * 2 ^ j + (2 ^ j - 1) = rw e at (ones_split (suc i) j) in
    let p : 2 ^ n ≡ 2 ^ suc i * 2 ^ j = rw e at (pow-add 2 (suc i) j) in
    let m : r * 2 ^ n ≡ r * 2 ^ suc i * 2 ^ j = ap (λ (x : ℕ). r * x) p ∙ sym (mul_assoc r (2 ^ suc i) (2 ^ j)) in
    let s : r * 2 ^ n + (2 ^ n - 1) ≡ (r * 2 ^ suc i + (2 ^ suc i - 1)) * 2 ^ j + (2 ^ j - 1) =
    omega (arith, o, m, add-mul (r * 2 ^ suc i) (2 ^ suc i - 1) (2 ^ j)) in
    let t : 2 ^ suc i ≡ 2 ^ i + 2 ^ i = two-pow-succ i in
    let u : r * 2 ^ suc i ≡ r * 2 ^ i + r * 2 ^ i = ap (λ (x : ℕ). r * x) t ∙ mul-add r (2 ^ i) (2 ^ i) in
    rw (s, high (r * 2 ^ suc i + (2 ^ suc i - 1)) j (ones_lt j)) (omega (arith, t, u, pow_pos i))

lit_above : {pos : ℕ} {ss : List Slot} (a b : ℕ) → a < 2 ^ pos → Apart pos ss → assigned ss b ≡ true → bits (a + join ss (ones ss)) b 1 ≡ 1
unfolding join assigned ones
lit_above a b ha (done h) u = let z : ◌≡◌ {A = ℕ} 0 1 = cc in absurd (omega arith)
lit_above a b ha (absent {s = s} {ss = ss} e p) u =
    rw (no_room (ones_lt s.width) e, zero-mul (2 ^ s.low), zero-add (join ss (ones ss))) (lit_above a b ha p (rw (outside_absent s b e) at u))
lit_above {pos} a b ha (next {s = s} {ss = ss} l p) u =
    go (λ z. lit_above (a + (2 ^ s.width - 1) * 2 ^ s.low) b (below_end s.low s.width ha' (ones_lt s.width)) p z)
    (leb s.low b) refl (ltb b (s.low + s.width)) refl u
  where
    ha' : a < 2 ^ s.low
    ha' = lt_of_lt_of_le ha (pow_mono l)

    v : ℕ
    v = 2 ^ s.width - 1

    rest : assigned ss b ≡ true → s.low + s.width ≤ b → bits (a + v * 2 ^ s.low + join ss (ones ss)) b 1 ≡ 1
        → bits (a + (v * 2 ^ s.low + join ss (ones ss))) b 1 ≡ 1
    rest z h x = rw (← add_assoc a (v * 2 ^ s.low) (join ss (ones ss))) x

    go : (assigned ss b ≡ true → bits (a + v * 2 ^ s.low + join ss (ones ss)) b 1 ≡ 1)
        → (t : Bool) → leb s.low b ≡ t → (t' : Bool) → ltb b (s.low + s.width) ≡ t' → t && t' || assigned ss b ≡ true
        → bits (a + (v * 2 ^ s.low + join ss (ones ss))) b 1 ≡ 1
    go ih true q true q' z =
        let (r, e) = multiple p (ones_fit ss) in
        let j : ℕ = b - s.low in
        let hb : s.low ≤ b = leb-true s.low b q in
        let eb : s.low + j ≡ b = omega arith in
        let hj : j < s.width = omega (arith, ltb-true b (s.low + s.width) q') in
        let x : a + (v * 2 ^ s.low + join ss (ones ss)) ≡ (r * 2 ^ s.width + v) * 2 ^ s.low + a =
        omega (arith, e, shifted r s.low s.width, add-mul (r * 2 ^ s.width) v (2 ^ s.low)) in
        rw (x, ← eb, ← shr-shr ((r * 2 ^ s.width + v) * 2 ^ s.low + a) s.low j, high (r * 2 ^ s.width + v) s.low ha')
        (one_of r s.width j hj)
    go ih true q false q' z = rest z (ltb-false b (s.low + s.width) q') (ih z)
    go ih false q t' q' z =
        let h : assigned ss b ≡ false = under p b (omega (arith, leb-false s.low b q)) in
        let y : ◌≡◌ {A = ℕ} 0 1 = cc in absurd (omega arith)

-- bit b of the mask says whether b is in a slot
pub mask_bit : (ss : List Slot) (b : ℕ) → Apart 0 ss → assigned ss b ≡ true → bits (join ss (ones ss)) b 1 ≡ 1
mask_bit ss b p u = rw (← zero-add (join ss (ones ss))) (lit_above 0 b (pow_pos 0) p u)

pub mask_has : (ss : List Slot) (b : ℕ) → Apart 0 ss → has (mask ss) b ≡ assigned ss b
mask_has ss b p = go (assigned ss b) refl
  where
    go : (t : Bool) → assigned ss b ≡ t → has (mask ss) b ≡ assigned ss b
    go true e = rw (mask_bit ss b p e, e)
    go false e = rw (join_blank b p (ones_fit ss) e, e)

-- the numbers of a word have room
pub split_fit : (ss : List Slot) (w : ℕ) → T (fit ss (split ss w))
unfolding fit split
split_fit [] w = tt
split_fit (s ∷ ss) w =
    and_both (ltb (bits w s.low s.width) (2 ^ s.width)) (fit ss (split ss w)) (lt→ltb _ _ (mod-lt _ (pow_pos s.width))) (split_fit ss w)
