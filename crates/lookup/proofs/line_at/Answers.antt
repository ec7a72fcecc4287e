use mathlib.Core.Path.{◌≡◌, sym, ap, ◌∙◌}
use Prim.Native.Nat.{ℕ}
use native.Mathlib.Omega.{arith}
use Rattle.bits.specs.Fields.{assigned}
use Rattle.rows.specs.Rows.{rows, row_count}
use Rattle.rows.specs.Layout.{places, slots, modifier_at}
use Rattle.lookup.specs.Served.Lines.{line_of}
use Rattle.lookup.specs.Served.Index.{cells, row_under}
use Rattle.lookup.specs.declared.Line.{Line}
use Rattle.opcoderows.proofs.KeyedLaws.{Missed, unlisted, told}
use Rattle.lookup.proofs.line_at.Goals as goal
use Rattle.std.proofs.lemmas.Grind.{common_steps}

line_under : ℕ → Line
line_under cell = line_of (row_under cell)

other : (h : ℕ) {l : Line} → Missed (Unit {0}) cells h → l ≡ line_of row_count → l ≡ line_of (row_under h)
unfolding row_under
other h m q = q ∙ sym (ap line_of (unlisted row_count cells h m))

pub returns-in-0 : goal.returns-in-0
unfolding line_under line_of rows places slots modifier_at assigned row_under
returns-in-0 c = told line_under c.args.cell 0 (omega arith) c.line_with.ensures

pub returns-in-1 : goal.returns-in-1
unfolding line_under line_of rows places slots modifier_at assigned row_under
returns-in-1 c = told line_under c.args.cell 1 (omega arith) c.line_with-in-1.ensures

pub returns-in-2 : goal.returns-in-2
unfolding line_under line_of rows places slots modifier_at assigned row_under
returns-in-2 c = told line_under c.args.cell 2 (omega arith) c.line_with-in-2.ensures

pub returns-in-3 : goal.returns-in-3
unfolding line_under line_of rows places slots modifier_at assigned row_under
returns-in-3 c = told line_under c.args.cell 3 (omega arith) c.line_with-in-3.ensures

pub returns-in-4 : goal.returns-in-4
unfolding line_under line_of rows places slots modifier_at assigned row_under
returns-in-4 c = told line_under c.args.cell 4 (omega arith) c.line_with-in-4.ensures

pub returns-in-5 : goal.returns-in-5
unfolding line_under line_of rows places slots modifier_at assigned row_under
returns-in-5 c = told line_under c.args.cell 5 (omega arith) c.line_with-in-5.ensures

pub returns-in-6 : goal.returns-in-6
unfolding line_under line_of rows places slots modifier_at assigned row_under
returns-in-6 c = told line_under c.args.cell 6 (omega arith) c.line_with-in-6.ensures

pub returns-in-7 : goal.returns-in-7
unfolding line_under line_of rows places slots modifier_at assigned row_under
returns-in-7 c = told line_under c.args.cell 7 (omega arith) c.line_with-in-7.ensures

pub returns-in-8 : goal.returns-in-8
unfolding line_under line_of rows places slots modifier_at assigned row_under
returns-in-8 c = told line_under c.args.cell 8 (omega arith) c.line_with-in-8.ensures

pub returns-in-9 : goal.returns-in-9
unfolding line_under line_of rows places slots modifier_at assigned row_under
returns-in-9 c = told line_under c.args.cell 9 (omega arith) c.line_with-in-9.ensures

pub returns-in-10 : goal.returns-in-10
unfolding line_under line_of rows places slots modifier_at assigned row_under
returns-in-10 c = told line_under c.args.cell 10 (omega arith) c.line_with-in-10.ensures

pub returns-in-12 : goal.returns-in-12
unfolding line_under line_of rows places slots modifier_at assigned row_under
returns-in-12 c = told line_under c.args.cell 12 (omega arith) c.line_with-in-12.ensures

pub returns-in-14 : goal.returns-in-14
unfolding line_under line_of rows places slots modifier_at assigned row_under
returns-in-14 c = told line_under c.args.cell 14 (omega arith) c.line_with-in-14.ensures

pub returns-in-15 : goal.returns-in-15
unfolding line_under line_of rows places slots modifier_at assigned row_under
returns-in-15 c = told line_under c.args.cell 15 (omega arith) c.line_with-in-15.ensures

pub returns-in-16 : goal.returns-in-16
unfolding line_under line_of rows places slots modifier_at assigned row_under
returns-in-16 c = told line_under c.args.cell 16 (omega arith) c.line_with-in-16.ensures

pub returns-in-17 : goal.returns-in-17
unfolding line_under line_of rows places slots modifier_at assigned row_under
returns-in-17 c = told line_under c.args.cell 17 (omega arith) c.line_with-in-17.ensures

pub returns-in-18 : goal.returns-in-18
unfolding line_under line_of rows places slots modifier_at assigned row_under
returns-in-18 c = told line_under c.args.cell 18 (omega arith) c.line_with-in-18.ensures

pub returns-in-19 : goal.returns-in-19
unfolding line_under line_of rows places slots modifier_at assigned row_under
returns-in-19 c = told line_under c.args.cell 19 (omega arith) c.line_with-in-19.ensures

pub returns-in-20 : goal.returns-in-20
unfolding line_under line_of rows places slots modifier_at assigned row_under
returns-in-20 c = told line_under c.args.cell 20 (omega arith) c.line_with-in-20.ensures

pub returns-in-21 : goal.returns-in-21
unfolding line_under line_of rows places slots modifier_at assigned row_under
returns-in-21 c = told line_under c.args.cell 21 (omega arith) c.line_with-in-21.ensures

pub returns-in-22 : goal.returns-in-22
unfolding line_under line_of rows places slots modifier_at assigned row_under
returns-in-22 c = told line_under c.args.cell 22 (omega arith) c.line_with-in-22.ensures

pub returns-in-23 : goal.returns-in-23
unfolding line_under line_of rows places slots modifier_at assigned row_under
returns-in-23 c = told line_under c.args.cell 23 (omega arith) c.line_with-in-23.ensures

pub returns-in-24 : goal.returns-in-24
unfolding line_under line_of rows places slots modifier_at assigned row_under
returns-in-24 c = told line_under c.args.cell 24 (omega arith) c.line_with-in-24.ensures

pub returns-in-25 : goal.returns-in-25
unfolding line_under line_of rows places slots modifier_at assigned row_under
returns-in-25 c = told line_under c.args.cell 25 (omega arith) c.line_with-in-25.ensures

pub returns-in-26 : goal.returns-in-26
unfolding line_under line_of rows places slots modifier_at assigned row_under
returns-in-26 c = told line_under c.args.cell 26 (omega arith) c.line_with-in-26.ensures

pub returns-in-28 : goal.returns-in-28
unfolding line_under line_of rows places slots modifier_at assigned row_under
returns-in-28 c = told line_under c.args.cell 28 (omega arith) c.line_with-in-28.ensures

pub returns-in-30 : goal.returns-in-30
unfolding line_under line_of rows places slots modifier_at assigned row_under
returns-in-30 c = told line_under c.args.cell 30 (omega arith) c.line_with-in-30.ensures

pub returns-in-31 : goal.returns-in-31
unfolding line_under line_of rows places slots modifier_at assigned row_under
returns-in-31 c = told line_under c.args.cell 31 (omega arith) c.line_with-in-31.ensures

pub returns-in-33 : goal.returns-in-33
unfolding line_under line_of rows places slots modifier_at assigned row_under
returns-in-33 c = told line_under c.args.cell 33 (omega arith) c.line_with-in-33.ensures

pub returns-in-35 : goal.returns-in-35
unfolding line_under line_of rows places slots modifier_at assigned row_under
returns-in-35 c = told line_under c.args.cell 35 (omega arith) c.line_with-in-35.ensures

pub returns-in-37 : goal.returns-in-37
unfolding line_under line_of rows places slots modifier_at assigned row_under
returns-in-37 c = told line_under c.args.cell 37 (omega arith) c.line_with-in-37.ensures

pub returns-in-41 : goal.returns-in-41
unfolding line_under line_of rows places slots modifier_at assigned row_under
returns-in-41 c = told line_under c.args.cell 41 (omega arith) c.line_with-in-41.ensures

pub returns-in-42 : goal.returns-in-42
unfolding line_under line_of rows places slots modifier_at assigned row_under
returns-in-42 c = told line_under c.args.cell 42 (omega arith) c.line_with-in-42.ensures

pub returns-in-43 : goal.returns-in-43
unfolding line_under line_of rows places slots modifier_at assigned row_under
returns-in-43 c = told line_under c.args.cell 43 (omega arith) c.line_with-in-43.ensures

pub returns-in-45 : goal.returns-in-45
unfolding line_under line_of rows places slots modifier_at assigned row_under
returns-in-45 c = told line_under c.args.cell 45 (omega arith) c.line_with-in-45.ensures

pub returns-in-46 : goal.returns-in-46
unfolding line_under line_of rows places slots modifier_at assigned row_under
returns-in-46 c = told line_under c.args.cell 46 (omega arith) c.line_with-in-46.ensures

pub returns-in-47 : goal.returns-in-47
unfolding line_under line_of rows places slots modifier_at assigned row_under
returns-in-47 c = told line_under c.args.cell 47 (omega arith) c.line_with-in-47.ensures

pub returns-in-49 : goal.returns-in-49
unfolding line_under line_of rows places slots modifier_at assigned row_under
returns-in-49 c = told line_under c.args.cell 49 (omega arith) c.line_with-in-49.ensures

pub returns-in-50 : goal.returns-in-50
unfolding line_under line_of rows places slots modifier_at assigned row_under
returns-in-50 c = told line_under c.args.cell 50 (omega arith) c.line_with-in-50.ensures

pub returns-in-51 : goal.returns-in-51
unfolding line_under line_of rows places slots modifier_at assigned row_under
returns-in-51 c = told line_under c.args.cell 51 (omega arith) c.line_with-in-51.ensures

pub returns-in-53 : goal.returns-in-53
unfolding line_under line_of rows places slots modifier_at assigned row_under
returns-in-53 c = told line_under c.args.cell 53 (omega arith) c.line_with-in-53.ensures

pub returns-in-54 : goal.returns-in-54
unfolding line_under line_of rows places slots modifier_at assigned row_under
returns-in-54 c = told line_under c.args.cell 54 (omega arith) c.line_with-in-54.ensures

pub returns-in-69 : goal.returns-in-69
unfolding line_under line_of rows places slots modifier_at assigned row_under
returns-in-69 c = told line_under c.args.cell 69 (omega arith) c.line_with-in-69.ensures

pub returns-in-71 : goal.returns-in-71
unfolding line_under line_of rows places slots modifier_at assigned row_under
returns-in-71 c = told line_under c.args.cell 71 (omega arith) c.line_with-in-71.ensures

pub returns-in-73 : goal.returns-in-73
unfolding line_under line_of rows places slots modifier_at assigned row_under
returns-in-73 c = told line_under c.args.cell 73 (omega arith) c.line_with-in-73.ensures

pub returns-in-74 : goal.returns-in-74
unfolding line_under line_of rows places slots modifier_at assigned row_under
returns-in-74 c = told line_under c.args.cell 74 (omega arith) c.line_with-in-74.ensures

pub returns-in-75 : goal.returns-in-75
unfolding line_under line_of rows places slots modifier_at assigned row_under
returns-in-75 c = told line_under c.args.cell 75 (omega arith) c.line_with-in-75.ensures

pub returns-in-77 : goal.returns-in-77
unfolding line_under line_of rows places slots modifier_at assigned row_under
returns-in-77 c = told line_under c.args.cell 77 (omega arith) c.line_with-in-77.ensures

pub returns-in-79 : goal.returns-in-79
unfolding line_under line_of rows places slots modifier_at assigned row_under
returns-in-79 c = told line_under c.args.cell 79 (omega arith) c.line_with-in-79.ensures

pub returns-in-81 : goal.returns-in-81
unfolding line_under line_of rows places slots modifier_at assigned row_under
returns-in-81 c = told line_under c.args.cell 81 (omega arith) c.line_with-in-81.ensures

pub returns-in-82 : goal.returns-in-82
unfolding line_under line_of rows places slots modifier_at assigned row_under
returns-in-82 c = told line_under c.args.cell 82 (omega arith) c.line_with-in-82.ensures

pub returns-in-83 : goal.returns-in-83
unfolding line_under line_of rows places slots modifier_at assigned row_under
returns-in-83 c = told line_under c.args.cell 83 (omega arith) c.line_with-in-83.ensures

pub returns-in-84 : goal.returns-in-84
unfolding line_under line_of rows places slots modifier_at assigned row_under
returns-in-84 c = told line_under c.args.cell 84 (omega arith) c.line_with-in-84.ensures

pub returns-in-85 : goal.returns-in-85
unfolding line_under line_of rows places slots modifier_at assigned row_under
returns-in-85 c = told line_under c.args.cell 85 (omega arith) c.line_with-in-85.ensures

pub returns-in-101 : goal.returns-in-101
unfolding line_under line_of rows places slots modifier_at assigned row_under
returns-in-101 c = told line_under c.args.cell 101 (omega arith) c.line_with-in-101.ensures

pub returns-in-117 : goal.returns-in-117
unfolding line_under line_of rows places slots modifier_at assigned row_under
returns-in-117 c = told line_under c.args.cell 117 (omega arith) c.line_with-in-117.ensures

pub returns-in-118 : goal.returns-in-118
unfolding line_under line_of rows places slots modifier_at assigned row_under
returns-in-118 c = told line_under c.args.cell 118 (omega arith) c.line_with-in-118.ensures

pub returns-in-119 : goal.returns-in-119
unfolding line_under line_of rows places slots modifier_at assigned row_under
returns-in-119 c = told line_under c.args.cell 119 (omega arith) c.line_with-in-119.ensures

pub returns-in-120 : goal.returns-in-120
unfolding line_under line_of rows places slots modifier_at assigned row_under
returns-in-120 c = told line_under c.args.cell 120 (omega arith) c.line_with-in-120.ensures

pub returns-in-121 : goal.returns-in-121
unfolding line_under line_of rows places slots modifier_at assigned row_under
returns-in-121 c = told line_under c.args.cell 121 (omega arith) c.line_with-in-121.ensures

pub returns-in-136 : goal.returns-in-136
unfolding line_under line_of rows places slots modifier_at assigned row_under
returns-in-136 c = told line_under c.args.cell 136 (omega arith) c.line_with-in-136.ensures

pub returns-in-137 : goal.returns-in-137
unfolding line_under line_of rows places slots modifier_at assigned row_under
returns-in-137 c = told line_under c.args.cell 137 (omega arith) c.line_with-in-137.ensures

pub returns-in-138 : goal.returns-in-138
unfolding line_under line_of rows places slots modifier_at assigned row_under
returns-in-138 c = told line_under c.args.cell 138 (omega arith) c.line_with-in-138.ensures

pub returns-in-139 : goal.returns-in-139
unfolding line_under line_of rows places slots modifier_at assigned row_under
returns-in-139 c = told line_under c.args.cell 139 (omega arith) c.line_with-in-139.ensures

pub returns-in-154 : goal.returns-in-154
unfolding line_under line_of rows places slots modifier_at assigned row_under
returns-in-154 c = told line_under c.args.cell 154 (omega arith) c.line_with-in-154.ensures

pub returns-in-155 : goal.returns-in-155
unfolding line_under line_of rows places slots modifier_at assigned row_under
returns-in-155 c = told line_under c.args.cell 155 (omega arith) c.line_with-in-155.ensures

pub returns-in-158 : goal.returns-in-158
unfolding line_under line_of rows places slots modifier_at assigned row_under
returns-in-158 c = told line_under c.args.cell 158 (omega arith) c.line_with-in-158.ensures

pub returns-in-159 : goal.returns-in-159
unfolding line_under line_of rows places slots modifier_at assigned row_under
returns-in-159 c = told line_under c.args.cell 159 (omega arith) c.line_with-in-159.ensures

pub returns-in-162 : goal.returns-in-162
unfolding line_under line_of rows places slots modifier_at assigned row_under
returns-in-162 c = told line_under c.args.cell 162 (omega arith) c.line_with-in-162.ensures

pub returns-in-163 : goal.returns-in-163
unfolding line_under line_of rows places slots modifier_at assigned row_under
returns-in-163 c = told line_under c.args.cell 163 (omega arith) c.line_with-in-163.ensures

pub returns-in-166 : goal.returns-in-166
unfolding line_under line_of rows places slots modifier_at assigned row_under
returns-in-166 c = told line_under c.args.cell 166 (omega arith) c.line_with-in-166.ensures

pub returns-in-167 : goal.returns-in-167
unfolding line_under line_of rows places slots modifier_at assigned row_under
returns-in-167 c = told line_under c.args.cell 167 (omega arith) c.line_with-in-167.ensures

pub returns-in-170 : goal.returns-in-170
unfolding line_under line_of rows places slots modifier_at assigned row_under
returns-in-170 c = told line_under c.args.cell 170 (omega arith) c.line_with-in-170.ensures

pub returns-in-171 : goal.returns-in-171
unfolding line_under line_of rows places slots modifier_at assigned row_under
returns-in-171 c = told line_under c.args.cell 171 (omega arith) c.line_with-in-171.ensures

pub returns-in-174 : goal.returns-in-174
unfolding line_under line_of rows places slots modifier_at assigned row_under
returns-in-174 c = told line_under c.args.cell 174 (omega arith) c.line_with-in-174.ensures

pub returns-in-178 : goal.returns-in-178
unfolding line_under line_of rows places slots modifier_at assigned row_under
returns-in-178 c = told line_under c.args.cell 178 (omega arith) c.line_with-in-178.ensures

pub returns-in-182 : goal.returns-in-182
unfolding line_under line_of rows places slots modifier_at assigned row_under
returns-in-182 c = told line_under c.args.cell 182 (omega arith) c.line_with-in-182.ensures

pub returns-in_default : goal.returns-in_default
unfolding line_under line_of rows places slots modifier_at assigned row_under
returns-in_default c = grind (arith, common_steps, other)
