use mathlib.Core.Path.{sym}
use Rattle.runbytes.proofs.NumberLaws.{lent_length}
use Rattle.replayer.proofs.ReplayingLaws.{is_whole}
use Rattle.replayer.proofs.answer_whole.Goals as goal

pub slice_bounds-uniforms-end : goal.slice_bounds-uniforms-end
slice_bounds-uniforms-end g c = (is_whole c.requires).few_uniforms

pub slice_bounds-answer_in-end : goal.slice_bounds-answer_in-end
slice_bounds-answer_in-end g c = lent_length 0 256 _ (is_whole c.requires).few_uniforms

pub slice_bounds-trace-end : goal.slice_bounds-trace-end
slice_bounds-trace-end g c = (is_whole c.requires).few_recorded

pub slice_bounds-answer_in-end-2 : goal.slice_bounds-answer_in-end-2
slice_bounds-answer_in-end-2 g c = lent_length 0 262144 _ (is_whole c.requires).few_recorded

pub answer_in-requires : goal.answer_in-requires
answer_in-requires g c = (c.requires, sym (lent_length 0 256 _ (is_whole c.requires).few_uniforms), sym (lent_length 0 262144 _ (is_whole c.requires).few_recorded))
