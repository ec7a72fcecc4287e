-- The default instruction of a row is the paper's fresh record (01, The 77 rows, last part; 02, Item 6): page and flow are 0, a destination
-- is all of r0, and each source and modifier has the default of its kind, 0 where the row has none there.
use Rattle.std.specs.Prelude.{map, ℕ, ltb, pos}
use Rattle.bits.specs.Outcomes.{Outcome, gives, require, ◌then◌}
use Rattle.rows.specs.Kinds.{about}
use Rattle.rows.specs.Rows.{row_of, row_count}
use Rattle.rows.specs.Layout.{Place, kind_at, mask_place, source_places, modifier_places}
use Rattle.record.specs.Answers.{refusal}
use Rattle.record.specs.Lists.{sources_of, modifiers_of}
use Rattle.record.specs.declared.instruction.Instruction.{Instruction}
use Rattle.record.specs.declared.answer.Refusal.{Refusal}

-- what a row's default has at a place
abbrev pub default_at : ℕ → Place → ℕ
default_at k p = (about (kind_at (row_of k) p)).default

abbrev pub default_instruction : ℕ → Instruction
default_instruction k =
    record {
      row = k;
      page = 0;
      flow = 0;
      register = 0;
      half_mask = default_at k mask_place;
      sources = sources_of (map (default_at k) source_places);
      modifiers = modifiers_of (map (default_at k) modifier_places);
      offset = pos 0;
    }

-- the same instruction with flow `end` (01, The frame), which the caller sets where nothing is to follow (02, Item 6)
abbrev pub ended : Instruction → Instruction
ended i =
    record {
      row = i.row;
      page = i.page;
      flow = 15;
      register = i.register;
      half_mask = i.half_mask;
      sources = i.sources;
      modifiers = i.modifiers;
      offset = i.offset;
    }

-- 2 for a row number past the table's end
unfoldable pub fresh : ℕ → Outcome Refusal Instruction
fresh k = require (ltb k row_count) (refusal 2 0) then gives (default_instruction k)
