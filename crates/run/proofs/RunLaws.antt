-- The run's loop, turn by turn, and that the instructions run form a walk. Assumes nothing.
use Rattle.std.specs.Prelude.{Option}
use mathlib.Core.Path.{◌≡◌, refl, sym, ap, ap₂, ◌∙◌}
use mathlib.Core.Bool.{Bool, true, false}
use mathlib.Core.List.{List, ◌∷◌}
use Prim.Native.Nat.{ℕ, suc, ◌+◌, ◌-◌, ◌≤◌, ◌<◌}
use native.Mathlib.Omega.{arith}
use native.Mathlib.Numerals.{add-one}
use lib.IntN.{pos}
use borrow.Author.Tests.{lt-ltb, le-ltb}
use Rattle.record.specs.Registers.{ends}
use Rattle.safety.specs.Program.{Program, machine}
use Rattle.walks.specs.Walks.{Walk, start, step, AllSafe}
use Rattle.machine.specs.Steps.{State, after, registers_after, index_after}
use Rattle.trace.specs.Trace.{difference}
use Rattle.run.specs.declared.Stop.{Stop}
use Rattle.run.specs.declared.Stop.TheVariants.{Differs, Ended, Limit}
use Rattle.run.specs.Run.{stopped, or_later, at, visited, stop, run_from, run}
use Rattle.run.proofs.StepLaws.{goes}

module _ (p : Program) (uniforms start_registers trace : List ℕ) where
  abbrev before : ℕ → State
  before k = at p uniforms start_registers k

  pub at_registers : (k : ℕ) → (before (suc k)).registers ≡ registers_after uniforms (p.instruction (before k).index) (before k).registers
  unfolding at after
  at_registers k = refl

  pub at_index : (k : ℕ) → (before (suc k)).index ≡ index_after uniforms p.count (before k).index (p.instruction (before k).index) (before k).registers
  unfolding at after
  at_index k = refl

  run_first : (k n : ℕ) → k < n → run_from p uniforms start_registers trace k (n - k) ≡ or_later (stop p uniforms start_registers trace k) (run_from p uniforms start_registers trace (k + 1) (n - (k + 1)))
  unfolding run_from
  run_first k n h =
      let e : n - k ≡ suc (n - (k + 1)) = omega arith in
      ap (run_from p uniforms start_registers trace k) e ∙ rw add-one

  -- where the loop stands before step k
  pub record Here (limit : ℕ) (registers : List ℕ) (i k : ℕ) : Type 0 where
    pub registers_are : registers ≡ (before k).registers
    pub index_is : i ≡ (before k).index
    pub rest : run_from p uniforms start_registers trace k (limit - k) ≡ run p uniforms start_registers trace limit
    pub arrived : Walk (machine p) (i ∷ visited p uniforms start_registers k)

  pub at_start : (limit : ℕ) → Here limit start_registers 0 0
  unfolding at visited run
  at_start limit =
      let z : limit - 0 ≡ limit = omega arith in
      record { registers_are = refl; index_is = refl; rest = ap (run_from p uniforms start_registers trace 0) z; arrived = start }

  module _ (safe : AllSafe (machine p)) {limit : ℕ} {registers : List ℕ} {i k : ℕ} (here : Here limit registers i k) where
    pub over : limit ≤ k → k ≤ limit → (Limit limit ≡ run p uniforms start_registers trace limit) × (registers ≡ (before limit).registers)
    unfolding run_from
    over l h =
        let z : limit - k ≡ 0 = omega arith in
        let e : k ≡ limit = omega arith in
        (sym (ap Limit e) ∙ sym (ap (run_from p uniforms start_registers trace k) z) ∙ here.rest, here.registers_are ∙ ap (λ (j : ℕ). (before j).registers) e)

    module _ {left : List ℕ} {r : ℕ} {e : Bool} (h : k < limit) (l : left ≡ registers_after uniforms (p.instruction i) registers) (d : r ≡ difference left trace k) (t : e ≡ ends (p.instruction i)) where
      pub left_is : left ≡ (before (suc k)).registers
      left_is = l ∙ ap₂ (λ (j : ℕ) (s : List ℕ). registers_after uniforms (p.instruction j) s) here.index_is here.registers_are ∙ sym (at_registers k)

      stop_is : stop p uniforms start_registers trace k ≡ stopped k r e
      unfolding stop
      stop_is =
          let x : difference (before (suc k)).registers trace k ≡ r = ap (λ (y : List ℕ). difference y trace k) (sym left_is) ∙ sym d in
          let y : ends (p.instruction (before k).index) ≡ e = ap (λ (j : ℕ). ends (p.instruction j)) (sym here.index_is) ∙ sym t in
          ap₂ (stopped k) x y

      run_is : run p uniforms start_registers trace limit ≡ or_later (stopped k r e) (run_from p uniforms start_registers trace (k + 1) (limit - (k + 1)))
      run_is = sym here.rest ∙ run_first k limit h ∙ ap (λ (x : Option Stop). or_later x (run_from p uniforms start_registers trace (k + 1) (limit - (k + 1)))) stop_is

      pub differs : r < 64 → Differs k r ≡ run p uniforms start_registers trace limit
      differs w = sym (rw (lt-ltb r 64 w) at run_is)

      pub ended : 64 ≤ r → e ≡ true → Ended (suc k) ≡ run p uniforms start_registers trace limit
      ended w q = sym (rw (le-ltb r 64 w, q) at run_is)

      pub onward : 64 ≤ r → e ≡ false → (j : ℕ) → j ≡ index_after uniforms p.count i (p.instruction i) registers → Here limit left j (k + 1) × (j < p.count)
      unfolding visited machine
      onward w q j n =
          let g = goes p safe here.arrived (sym t ∙ q) uniforms registers in
          let f : (machine p).follows i (pos j) = rw n g.0 in
          let b : j < p.count = rw n g.1 in (
            record {
              registers_are = rw add-one left_is;
              index_is = n ∙ rw (add-one, at_index k) (ap₂ (λ (m : ℕ) (s : List ℕ). index_after uniforms p.count m (p.instruction m) s) here.index_is here.registers_are);
              rest = sym (rw (le-ltb r 64 w, q) at run_is);
              arrived = rw (add-one, ← here.index_is) (step here.arrived f b);
            },
            b,
          )
