-- Bytes whose parts are all there.
use Rattle.std.specs.Prelude.{◌≡◌, List, ℕ, ◌≤◌, length}
use Rattle.runbytes.specs.declared.Front.{Front}
use Rattle.runbytes.specs.RunBytes.{most_uniforms, most_recorded, front_in, container_start}

pub record Whole (s : List ℕ) (f : Front) : Type 0 where
  pub front : f ≡ front_in s
  pub few_uniforms : f.uniforms ≤ most_uniforms
  pub few_recorded : f.recorded ≤ most_recorded
  pub there : container_start f ≤ length s
