-- Names as the table has them, and how they are put into a buffer. Assumes nothing.
use mathlib.Core.Path.{◌≡◌, refl, ap, ◌∙◌}
use mathlib.Core.List.{List}
use Prim.Native.Nat.{ℕ, ◌-◌, ◌<◌, ◌≤◌}
use lib.ListN.{length, take, replicate}
use lib.Seq.{take_at}
use Rattle.rows.specs.Rows.{row_count}
use Rattle.rows.specs.Names.{ascii, name_of, name_width, filled, name, names as all_names, before_space}
use Rattle.rows.specs.declared.names.Name.{Name}
use Rattle.rows.proofs.FlatLaws.{part}
use Rattle.rows.proofs.NameLaws.{name_in, name_long, name_there, no_name}
use Rattle.text.specs.Text.{unpadded, Put}
use Rattle.text.proofs.TextLaws.{put_nothing}

-- what stands before the first space is the name
name_length : (k : ℕ) → k < row_count → before_space (filled (name_of k)) ≡ length (name_of k)
unfolding name
name_length k h = ap (λ (n : Name). n.len) (name_there k h refl refl)

unpadded_name : (k : ℕ) → k < row_count → unpadded (filled (name_of k)) ≡ name_of k
unfolding unpadded
unpadded_name k h =
    ap (λ (n : ℕ). take n (filled (name_of k))) (name_length k h)
    ∙ take_at (name_of k) (replicate (name_width - length (name_of k)) 32) (length (name_of k)) refl

-- a name, as it is read from a table that is lent
module _ {names : List ℕ} (k : ℕ) (e : names ≡ all_names) (h : k < row_count) where
  read : part name_width k names ≡ filled (name_of k)
  read = ap (part name_width k) e ∙ name_in k h

  pub long : length (part name_width k names) ≡ name_width
  long = ap length read ∙ name_long k h

  pub again : unpadded (part name_width k names) ≡ name_of k
  again = ap unpadded read ∙ unpadded_name k h

pub no_name_put : (k : ℕ) (before : List ℕ) → row_count ≤ k → Put (name_of k) before before 0
unfolding ascii
no_name_put k before h = put_nothing (rw (no_name k h)) before
