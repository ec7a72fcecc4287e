-- What the code keeps of a program while it sweeps: for each instruction the registers that it kills, those of which it fills the low half
-- and those of which it fills the high half, and the two places to which it can go on, n where there is none; and a sweep over such lists,
-- of one half.
use Rattle.std.specs.Prelude.{◌≡◌, true, List, ℕ, zero, suc, ◌+◌, ◌^◌, ◌<◌, ◌≤◌, pos, ◌+ℤ◌, length, get_or, set}
use Rattle.container.specs.Formats.{known, most_instructions}
use Rattle.bits.specs.Fields.{choose}
use Rattle.bits.specs.Sets.{intersection, union, minus}
use Rattle.bits.specs.Halves.{Half, lower, upper, half_of, halves}
use Rattle.record.specs.declared.instruction.Instruction.{Instruction}
use Rattle.record.specs.Registers.{kills, ends, branches}
use Rattle.packing.specs.Packing.{taken}
use Rattle.safety.specs.Program.{Program, landing, fills}
use Rattle.sweeps.specs.declared.plan.Step.{Step}
use Rattle.sweeps.specs.Sweeps.{all_registers, note, sweeps}
use Rattle.sweeps.specs.Served.Tracks.{half_note, half_sweeps}

-- the next instruction, or n after `end`
abbrev pub falls_to : Instruction → ℕ → ℕ → ℕ
falls_to x i n = choose (ends x) n (i + 1)

-- the branch target, or n where there is none inside
abbrev pub jumps_to : Instruction → ℕ → ℕ → ℕ
jumps_to x i n = choose (ends x) n (choose (branches x) (landing n (pos (i + 1) +ℤ x.offset)) n)

abbrev pub step : ℕ → Instruction → ℕ → ℕ → Step
step v x i n = record { kills = kills x; fills = fills v x; falls = falls_to x i n; jumps = jumps_to x i n }

-- the lists have this of the instructions before t, for one half
pub record Planned (p : Program) (h : Half) (ks ds fs js : List ℕ) (t : ℕ) : Type 0 where
  pub kills : (i : ℕ) → i < t → get_or ks i 0 ≡ kills (p.instruction i)
  pub fills : (i : ℕ) → i < t → get_or ds i 0 ≡ half_of h (fills p.version (p.instruction i))
  pub falls : (i : ℕ) → i < t → get_or fs i 0 ≡ falls_to (p.instruction i) i p.count
  pub jumps : (i : ℕ) → i < t → get_or js i 0 ≡ jumps_to (p.instruction i) i p.count

-- four lists of n, for a plan of one half
pub record Sized (ks ds fs js : List ℕ) (n : ℕ) : Type 0 where
  pub kills : length ks ≡ n
  pub fills : length ds ≡ n
  pub falls : length fs ≡ n
  pub jumps : length js ≡ n

-- note j, if there is one, narrowed to what is held
unfoldable pub narrow_at : List ℕ → ℕ → ℕ → List ℕ
narrow_at l j held = set l j (intersection (get_or l j 0) held)

-- what instruction t leaves held, by the notes `old`
abbrev pub left_by : List ℕ → List ℕ → List ℕ → ℕ → ℕ
left_by ks ds old t = union (minus (get_or old t 0) (get_or ks t 0)) (get_or ds t 0)

-- the notes `new` after the first t instructions had their turn
unfoldable pub swept_list : List ℕ → List ℕ → List ℕ → List ℕ → List ℕ → List ℕ → ℕ → List ℕ
swept_list ks ds fs js old new zero = new
swept_list ks ds fs js old new (suc t) =
    narrow_at (narrow_at (swept_list ks ds fs js old new t) (get_or fs t 0) (left_by ks ds old t)) (get_or js t 0) (left_by ks ds old t)

-- a list has one half of the notes after k sweeps
pub record Holds (p : Program) (h : Half) (k : ℕ) (l : List ℕ) : Type 0 where
  pub long : length l ≡ p.count
  pub are : (j : ℕ) → j < p.count → get_or l j 0 ≡ half_note p h k j

-- n sets of all registers
pub record Full (l : List ℕ) (n : ℕ) : Type 0 where
  pub long : length l ≡ n
  pub all : (j : ℕ) → j < n → get_or l j 0 ≡ all_registers

-- the numbers of the program are such as the code has
pub record Ranged (p : Program) : Type 0 where
  pub low : p.entry.low < 2 ^ 64
  pub high : p.entry.high < 2 ^ 64
  pub few : p.count ≤ most_instructions

-- what the sweeps of one half begin with: a plan of the program, and its first notes
pub record Begun (p : Program) (h : Half) (ks ds fs js l : List ℕ) : Type 0 where
  pub ranged : Ranged p
  pub plan : Planned p h ks ds fs js p.count
  pub notes : Holds p h 0 l

-- what they end with: their number, and the notes after as many
pub record Rested (p : Program) (h : Half) (k : ℕ) (l : List ℕ) : Type 0 where
  pub counted : k ≡ half_sweeps p h
  pub notes : Holds p h (half_sweeps p h) l

-- what the sweeps of both halves begin with. The entry set is one that the version can write.
pub record BothBegun (p : Program) (ks ls hs fs js lows highs : List ℕ) : Type 0 where
  pub is_known : known p.version ≡ true
  pub entered : taken p.version p.entry ≡ p.entry
  pub low : Begun p lower ks ls fs js lows
  pub high : Begun p upper ks hs fs js highs

-- what they end with: the number of the sweeps, and lists that have the notes after as many as far as the version writes them
pub record BothRested (p : Program) (k : ℕ) (lows highs : List ℕ) : Type 0 where
  pub counted : k ≡ sweeps p
  pub long : length lows ≡ p.count
  pub notes : (j : ℕ) → j < p.count → taken p.version (halves (get_or lows j 0) (get_or highs j 0)) ≡ note p (sweeps p) j
