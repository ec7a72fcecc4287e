-- What is proved, on one page: every top theorem by name. The types are the statements; the definitions in them stand in the `specs` folders,
-- in the order that README gives. The calls are those that users have: their contracts stand at the calls, in `src`. Assumes nothing.
use mathlib.Core.Bool.{true, false, cond}
use mathlib.Core.List.{List, [], ◌∷◌, map}
use Prim.Native.Nat.{ℕ, suc, ◌-◌, ◌^◌, ◌<◌, ◌≤◌}
use mathlib.Core.Path.{◌≡◌}
use mathlib.Core.Logic.{◌≢◌, ◌⊎◌, ◌↔◌}
use lib.Dec.{T, eqb}
use lib.ListN.{length, take}
use lib.Pow.{are_bytes}
use Rattle.bits.specs.Outcomes.{Outcome, gives, refuses, passes}
use Rattle.bits.specs.declared.halves.Halves.{Halves}
use Rattle.rows.specs.Rows.{row_count, row_of}
use Rattle.rows.specs.Sources.{meaning, Paired}
use Rattle.sources.proofs.meaning as meaning_call
use Rattle.rows.proofs.SourceLaws as source_laws
use Rattle.opcoderows.specs.Opcodes.{row_with, Indexes, row_for, OwnRows}
use Rattle.opcoderows.proofs.row_with as row_call
use Rattle.lookup.proofs.line_of as line_call
use Rattle.opcoderows.proofs.RunLaws as run_laws
use Rattle.opcoderows.proofs.OpcodeLaws as opcode_laws
use Rattle.record.specs.declared.answer.Refusal.{Refusal}
use Rattle.record.specs.declared.instruction.Instruction.{Instruction}
use Rattle.record.specs.Defaults.{fresh, default_instruction}
use Rattle.record.proofs.NumberedLaws as record_numbers
use Rattle.reading.proofs.NumberedLaws as reader_numbers
use Rattle.record.proofs.instruction.Instruction.fresh as fresh_call
use Rattle.reading.specs.Reader.{read}
use Rattle.reading.specs.Stray.{NamesStray}
use Rattle.reading.proofs.StrayNamed as stray_named
use Rattle.writing.specs.Writer.{write, stored}
use Rattle.writing.proofs.RoundTrip as round_trip
use Rattle.codec.specs.Demand2.{Demand2, LegalRecord}
use Rattle.codec.specs.Examples.{Hold, examples}
use Rattle.codec.proofs.read_word as read_call
use Rattle.codec.proofs.write_word as write_call
use Rattle.codec.proofs.Demand2Met as demand_2_met
use Rattle.codec.proofs.ExamplesHold as examples_met
use Rattle.codec.proofs.Defaulted as defaulted
use Rattle.container.proofs.header.«open» as open_call
use Rattle.container.proofs.parts.annotations as annotations_call
use Rattle.container.proofs.parts.words as words_call
use Rattle.view.proofs.word_of as word_call
use Rattle.view.proofs.word_in as word_in_call
use Rattle.view.proofs.word_at as word_at_call
use Rattle.view.proofs.view_of as view_call
use Rattle.view.proofs.open_count as count_call
use Rattle.view.proofs.WordLaws as word_laws
use Rattle.packing.proofs.fit as fit_call
use Rattle.packing.proofs.pack as pack_call
use Rattle.packing.proofs.PackLaws as pack_laws
use Rattle.container.specs.Formats.{known}
use Rattle.container.specs.Container.{version_of, count_of, entry_of, words_of, annotations_of, eight}
use Rattle.packing.specs.Packing.{word_count, Fitting, taken, container_bytes, pack_outcome}
use Rattle.bits.specs.Bytes.{little}
use Rattle.container.specs.Opening.{Rejection, unplaced, open_outcome, Opens}
use Rattle.view.specs.Words.{word_outcome, open_count}
use Rattle.container.proofs.NumberedLaws as container_numbers
use Rattle.view.proofs.WordNumbers as word_refusals
use Rattle.packing.proofs.NumberedLaws as packing_numbers
use Rattle.safety.specs.declared.verdict.Reported.TheVariants.{Neither}
use Rattle.safety.specs.declared.verdict.Finding.{Finding}
use Rattle.safety.specs.Verdict.{Judgement, verdict_of, all_read}
use Rattle.safety.specs.Program.{Program, Fact, In, machine, WellFormed}
use Rattle.safety.specs.Reasons.{Reason}
use Rattle.safety.specs.Passed.{PassesOn}
use Rattle.safety.proofs.PassedLaws as passed_on
use Rattle.safety.specs.Demand3.{Demand3}
use Rattle.safety.specs.Lazy.{WavesThrough}
use Rattle.walks.specs.Walks.{Machine, HoldsIfSupplied}
use Rattle.walks.specs.Sweeps.{Note, Reports}
use Rattle.walks.proofs.WalkLaws as walk_laws
use Rattle.verifier.proofs.verify as check_call
use Rattle.verifier.proofs.read_all as read_all_call
use Rattle.safety.proofs.ReadLaws as read_laws
use Rattle.safety.proofs.NumberedLaws as verifier_numbers
use Rattle.safety.proofs.Demand3 as demand_3_met
use Rattle.safety.proofs.ReasonLaws as reasons
use Rattle.safety.proofs.LazyChecks as lazy_checks
use Rattle.version1.specs.Demand3 as version_1
use Rattle.version1.specs.Same.{AsBefore}
use Rattle.version1.proofs.SameVerdict as same_verdict
use Rattle.version1.proofs.Demand3Met as version_1_met
use Rattle.version1.proofs.LazyChecks as version_1_lazy
use Rattle.sweeps.specs.Sweeps.{note, sweeps}
use Rattle.infer.specs.Inference.{infer_outcome, infer_buffer}
use Rattle.infer.specs.Asked.{Maker, AskedIn, Asked, LowAlone}
use Rattle.infer.specs.Lazy.{AlwaysNone, NamesNothing, LeavesOutTheLast, StopsEarly, WholeRegisters}
use Rattle.infer.proofs.infer as infer_call
use Rattle.infer.proofs.AskedLaws as inferred
use Rattle.sweeps.proofs.SweepLaws as sweep_laws
use Rattle.infer.proofs.LazyMakers as lazy_makers
use Rattle.infer.proofs.NumberedLaws as infer_numbers
use Rattle.trial.specs.Trial.{FreshGiven, FreshSources, FreshReadsNone, FreshAccepted}
use Rattle.trial.proofs.TrialLaws as trial_laws
use Rattle.differences.specs.declared.answer.Unread.{Unread}
use Rattle.differences.specs.Records.{contents, HoldsBits}
use Rattle.differences.specs.Differences.{instruction_of, shared}
use Rattle.differences.specs.Answers.{side_of, both_read, line_outcome}
use Rattle.differences.specs.Numbers.{TellLines}
use Rattle.differences.specs.Asked.{Comparison, Compares}
use Rattle.differences.specs.Lazy.{NeverLists, ListsEveryField}
use Rattle.diff.proofs.diff_line as diff_line_call
use Rattle.difflist.proofs.diff_lines as diff_lines_call
use Rattle.diff.proofs.both_read as both_read_call
use Rattle.differences.specs.Version1.{Version1AsBoth, Version1AsBefore}
use Rattle.differences.proofs.AskedLaws as compared
use Rattle.differences.proofs.VersionLaws as version_laws
use Rattle.differences.proofs.BitLaws as bit_laws
use Rattle.differences.proofs.NumberLaws as number_laws
use Rattle.differences.proofs.LazyComparisons as lazy_comparisons
use Rattle.differences.proofs.RefusalLaws as diff_refusals
use Rattle.leftout.specs.LeftOut.{Apart}
use Rattle.leftout.proofs.StandsApart as stands_apart
use Rattle.disasm.proofs.«write» as text_call
use Rattle.lacks.specs.Lacks.{LackTrue}
use Rattle.lacks.proofs.StrayLaws as word_stray
use Rattle.show.specs.Show.{shown}
use Rattle.show.proofs.«write» as show_call
use Rattle.show.proofs.FrontLaws as show_fronts
use Rattle.listing.specs.Listing.{listing}
use Rattle.listing.specs.Asked.{ListedAsAsked}
use Rattle.listing.specs.Cut.{read_length, FromTheFront}
use Rattle.listing.proofs.«write» as list_call
use Rattle.linetext.specs.Asked.{ShownWhole}
use Rattle.difftext.proofs.write_line as write_line_call
use Rattle.linetext.proofs.ShownLaws as shown_laws
use Rattle.listing.proofs.AskedLaws as asked
use Rattle.listing.proofs.CutLaws as cut
use Rattle.codes.specs.Promises.{ZeroMeansDone, FewerMeansNone, NoRowMeansNone, ReadThenWritten, WrittenThenRead, FreshThenWritten, FreshThenAccepted, TextNeverEmpty, NoNameMeansNone}
use Rattle.capi.proofs.vsp_read as vsp_read_call
use Rattle.capi.proofs.vsp_write as vsp_write_call
use Rattle.capi.proofs.vsp_fresh as vsp_fresh_call
use Rattle.capi.proofs.vsp_row_of as vsp_row_of_call
use Rattle.capi.proofs.vsp_check as vsp_check_call
use Rattle.capi.proofs.vsp_infer as vsp_infer_call
use Rattle.capi.proofs.vsp_diff_line as vsp_diff_line_call
use Rattle.capi.proofs.vsp_diff_lines as vsp_diff_lines_call
use Rattle.capi.proofs.vsp_replay as vsp_replay_call
use Rattle.capi.proofs.vsp_text as vsp_text_call
use Rattle.capi.proofs.vsp_name as vsp_name_call
use Rattle.fadd.specs.Single.{fadd}
use Rattle.fadd.specs.Promises.{Adds}
use Rattle.fadd.specs.Wrong.{negate_first, nan_up, minus_zero_kept, other_nan}
use Rattle.fadd.proofs.fadd as fadd_call
use Rattle.fadd.proofs.PromisesMet as addition
use Rattle.fadd.proofs.WrongAdditions as wrong_additions
use Rattle.ops.specs.Rows.{bit, total, clz, popcount, bitrev, complement, passes as mask_passes, mux, jumps}
use Rattle.ops.proofs.RowLaws as row_laws
use Rattle.operations.specs.Replayable.{nine_rows}
use Rattle.operations.proofs.RowLaws as nine_laws
use Rattle.replay.specs.Replay.{Asked as Replay, replay_outcome, replay_registers}
use Rattle.replay.proofs.replay as replay_call
use Rattle.replay.proofs.NumberedLaws as replay_numbers
use Rattle.replaypromise.specs.Promises.{Replays}
use Rattle.replaypromise.specs.Lazy.{AlwaysEnds, NeverCompares, ComparesRegister0}
use Rattle.replaypromise.proofs.PromisesMet as replayed
use Rattle.replaypromise.proofs.LazyReplays as lazy_replays
use Rattle.run.specs.declared.Stop.{Stop}
use Rattle.replaycode.specs.ReplayCode.{LowByteTells}
use Rattle.replaycode.proofs.CodeLaws as replay_codes
use Rattle.codes.proofs.PromiseLaws as promises
use Rattle.codes.proofs.TextLaws as text_promises
use Rattle.claims.proofs.FrontLaws as front_laws

-- ---- Demand 1: every call ends, with the answer that its contract names, and a refusal writes nothing. A contract's `ensures` equates the
-- answer and each lent buffer afterwards with a definition, for all that can be handed in; none of these calls has a `requires`.
module _ {M : Type 1} where
  -- `codec::read_word`: the answer is `read` of the bytes, and of it what demand 2 asks of reading holds
  pub reads : read_call.Statement.statement M
  reads = read_call.Met.met

  -- `codec::write_word`: the answer is `write` of the instruction and the buffer, which then holds `stored`; what demand 2 asks of
  -- writing holds of them
  pub writes : write_call.Statement.statement M
  writes = write_call.Met.met

  -- `sources::meaning`: the answer stands for `meaning` of the page and the source byte
  pub means : meaning_call.Statement.statement M
  means = meaning_call.Met.met

  -- `opcoderows::row_with`: the answer stands for `row_with` of the opcode and k
  pub gives_rows : row_call.Statement.statement M
  gives_rows = row_call.Met.met

  -- `Instruction::fresh`: the answer is `fresh` of the row number
  pub makes : fresh_call.Statement.statement M
  makes = fresh_call.Met.met

  -- `container::header::open`: the answer is `open_outcome` of the bytes
  pub opens : open_call.Statement.statement M
  opens = open_call.Met.met

  -- `container::parts::annotations`: the part of the bytes that holds the notes, an empty part where they do not open
  pub lends_annotations : annotations_call.Statement.statement M
  lends_annotations = annotations_call.Met.met

  -- `container::parts::words`: the part of the bytes that holds the words, likewise
  pub lends_words : words_call.Statement.statement M
  lends_words = words_call.Met.met

  -- `view`: how many instructions there are, the view of a container, and the word at an index of one, of a view that anyone made,
  -- or of bytes with any n, or its refusal
  pub counts : count_call.Statement.statement M
  counts = count_call.Met.met

  pub views : view_call.Statement.statement M
  views = view_call.Met.met

  pub fetches : word_call.Statement.statement M
  fetches = word_call.Met.met

  pub fetches_from_a_view : word_at_call.Statement.statement M
  fetches_from_a_view = word_at_call.Met.met

  pub fetches_with_any_n : word_in_call.Statement.statement M
  fetches_with_any_n = word_in_call.Met.met

  -- `packing`: whether words and annotations of some lengths make a container; the container in the buffer, or its refusal
  pub fits : fit_call.Statement.statement M
  fits = fit_call.Met.met

  pub packs : pack_call.Statement.statement M
  packs = pack_call.Met.met

  -- `verifier::verify`: the answer is `verdict_of` the bytes, demand 3 holds of it, and a refusal has its reason
  pub checks : check_call.Statement.statement M
  checks = check_call.Met.met

  -- `verifier::read_all`: the answer is `all_read` of the bytes: opening and reading, and no more
  pub reads_all : read_all_call.Statement.statement M
  reads_all = read_all_call.Met.met

  -- `diff::both_read`: the answer is `both_read` of two containers
  pub reads_both : both_read_call.Statement.statement M
  reads_both = both_read_call.Met.met

  -- `diff::diff_line`: the answer is `line_outcome` of two containers and k: line k of the list of what differs, or that it has fewer, or
  -- which container cannot be compared
  pub compares : diff_line_call.Statement.statement M
  compares = diff_line_call.Met.met

  -- `difflist::diff_lines`: the answer is `list_outcome`, and the buffer then begins with the whole list
  pub compares_whole : diff_lines_call.Statement.statement M
  compares_whole = diff_lines_call.Met.met

  -- `infer::infer`: answer and buffer are those of the sweeps, and what is asked of a maker of annotations holds of them
  pub infers : infer_call.Statement.statement M
  infers = infer_call.Met.met

  -- `listing::write`: the buffer then begins with `listing` of the bytes
  pub lists : list_call.Statement.statement M
  lists = list_call.Met.met

  -- `difftext::write_line`: the buffer then begins with `line_text` of the line
  pub writes_line : write_line_call.Statement.statement M
  writes_line = write_line_call.Met.met

  -- `disasm::write`: the buffer then begins with `instruction_text` of the instruction
  pub tells_text : text_call.Statement.statement M
  tells_text = text_call.Met.met

  -- `show::write`: the buffer then begins with `shown` of the bytes
  pub shows : show_call.Statement.statement M
  shows = show_call.Met.met

  -- the functions for C: the answers are the codes of the same answers
  pub c_reads : vsp_read_call.Statement.statement M
  c_reads = vsp_read_call.Met.met

  pub c_writes : vsp_write_call.Statement.statement M
  c_writes = vsp_write_call.Met.met

  pub c_makes : vsp_fresh_call.Statement.statement M
  c_makes = vsp_fresh_call.Met.met

  pub c_gives_rows : vsp_row_of_call.Statement.statement M
  c_gives_rows = vsp_row_of_call.Met.met

  pub c_checks : vsp_check_call.Statement.statement M
  c_checks = vsp_check_call.Met.met

  pub c_infers : vsp_infer_call.Statement.statement M
  c_infers = vsp_infer_call.Met.met

  pub c_compares : vsp_diff_line_call.Statement.statement M
  c_compares = vsp_diff_line_call.Met.met

  pub c_compares_whole : vsp_diff_lines_call.Statement.statement M
  c_compares_whole = vsp_diff_lines_call.Met.met

  pub c_replays : vsp_replay_call.Statement.statement M
  c_replays = vsp_replay_call.Met.met

  pub c_tells_text : vsp_text_call.Statement.statement M
  c_tells_text = vsp_text_call.Met.met

  pub c_names : vsp_name_call.Statement.statement M
  c_names = vsp_name_call.Met.met

-- the numbers of the refusals are those of the rules: 1 to 7 of reading, 2 and 4 to 9 of writing, 2 of making, 10 to 13 of opening, 11 and 12
-- of packing, 14 of asking for a word, of the check 2 to 7, 10 to 13 and 20 to 23, of the maker 2 to 7, 11, 12 and 24, of a comparison 2 to 7
-- and 10 to 13, and of a replay those of the check and 30 to 32
pub read_refusals : (bs : List ℕ) (f : Refusal) → read bs ≡ refuses f → (1 ≤ f.number) × (f.number ≤ 7)
read_refusals = reader_numbers.read_numbers

pub write_refusals : (i : Instruction) (buffer : List ℕ) (f : Refusal) → write i buffer ≡ refuses f
    → (f.number ≡ 2) ⊎ ((4 ≤ f.number) × (f.number ≤ 9))
write_refusals = round_trip.write_numbers

pub fresh_refusals : (row : ℕ) (f : Refusal) → fresh row ≡ refuses f → f.number ≡ 2
fresh_refusals = record_numbers.fresh_numbers

pub open_refusals : (s : List ℕ) (r : Rejection) → open_outcome s ≡ refuses r → ((10 ≤ r.number) × (r.number ≤ 13)) × (r.place ≡ 0)
open_refusals = container_numbers.open_numbers

pub fetch_refusals : (s : List ℕ) (n i : ℕ) (r : Rejection) → word_outcome s n i ≡ refuses r → r ≡ unplaced 14
fetch_refusals = word_refusals.word_numbers

pub pack_refusals : (v : ℕ) (entry : Halves) (words annotations out : List ℕ) (r : Rejection) → pack_outcome v entry words annotations out ≡ refuses r
    → (r ≡ unplaced 11) ⊎ (r ≡ unplaced 12)
pack_refusals = packing_numbers.pack_numbers

-- a container that is packed opens with the parts that were packed, and one that opens is packed again from its parts
module _ (v : ℕ) (entry : Halves) (words annotations : List ℕ) (is_known : known v ≡ true) (fits_in : Fitting v (length words) (length annotations))
    (low : entry.low < 2 ^ 64) (high : entry.high < 2 ^ 64) where
  pub packed_opens : open_outcome (container_bytes v entry words annotations)
      ≡ gives (record { version = v; count = word_count (length words); entry = taken v entry })
  packed_opens = pack_laws.packed_opens v entry words annotations is_known fits_in low high

  pub packed_words : words_of (container_bytes v entry words annotations) ≡ words
  packed_words = pack_laws.packed_words v entry words annotations is_known fits_in low high

  pub packed_annotations : annotations_of (container_bytes v entry words annotations) ≡ annotations
  packed_annotations = pack_laws.packed_annotations v entry words annotations is_known fits_in low high

pub unpacked : (s : List ℕ) → T (are_bytes s) → Opens s → container_bytes (version_of s) (entry_of s) (words_of s) (annotations_of s) ≡ s
unpacked = pack_laws.unpacked

-- an opened container has a word at each index below its count
pub fetches_all : (s : List ℕ) → Opens s → (i : ℕ) → i < count_of s → word_outcome s (open_count s) i ≡ gives (little (eight (words_of s) i))
fetches_all s o = word_laws.opened_word s o

pub infer_refusals : (v : ℕ) (words : List ℕ) (entry : Halves) (buffer : List ℕ) (f : Finding) → infer_outcome v words entry buffer ≡ refuses f
    → ((2 ≤ f.number) × (f.number ≤ 7)) ⊎ ((f.number ≡ 11) ⊎ ((f.number ≡ 12) ⊎ (f.number ≡ 24)))
infer_refusals = infer_numbers.infer_numbers

pub check_refusals : (s : List ℕ) (f : Finding) → verdict_of s ≡ refuses f
    → ((2 ≤ f.number) × (f.number ≤ 7)) ⊎ (((10 ≤ f.number) × (f.number ≤ 13)) ⊎ ((20 ≤ f.number) × (f.number ≤ 23)))
check_refusals = verifier_numbers.verdict_numbers

pub replay_refusals : (a : Replay) (f : Finding) → replay_outcome a ≡ refuses f
    → (((2 ≤ f.number) × (f.number ≤ 7)) ⊎ (((10 ≤ f.number) × (f.number ≤ 13)) ⊎ ((20 ≤ f.number) × (f.number ≤ 23))))
    ⊎ ((30 ≤ f.number) × (f.number ≤ 32))
replay_refusals = replay_numbers.replay_numbers

-- ---- Demand 2: what is read, what is written, and that the two undo one another
pub demand_2 : Demand2 read write stored
demand_2 = demand_2_met.demand2

-- refusal 15 is never given
pub no_15 : (i : Instruction) (buffer : List ℕ) (f : Refusal) → write i buffer ≡ refuses f → f.number ≢ 15
no_15 = round_trip.no_15

-- a row's default is legal, so it can be written
pub default_legal : (k : ℕ) → k < row_count → LegalRecord (default_instruction k)
default_legal = defaulted.default_legal

-- examples A to L of paper 01
pub examples_hold : Hold examples
examples_hold = examples_met.examples_hold

-- the demand is not met by a reader that refuses all words, by one that knows one record, nor by a writer that writes nothing
pub not_by_refusing : (writer : Instruction → List ℕ → Outcome Refusal (Unit {0})) (after : Instruction → List ℕ → List ℕ) (f : List ℕ → Refusal)
    → ¬ Demand2 (λ (bs : List ℕ). refuses (f bs)) writer after
not_by_refusing = demand_2_met.refuses_all

pub not_by_one_record : (writer : Instruction → List ℕ → Outcome Refusal (Unit {0})) (after : Instruction → List ℕ → List ℕ)
    (reader : List ℕ → Outcome Refusal Instruction) (i : Instruction) → ((bs : List ℕ) (j : Instruction) → reader bs ≡ gives j → j ≡ i)
    → ¬ Demand2 reader writer after
not_by_one_record = demand_2_met.one_record

pub not_by_writing_nothing : (reader : List ℕ → Outcome Refusal Instruction) (writer : Instruction → List ℕ → Outcome Refusal (Unit {0}))
    → ¬ Demand2 reader writer (λ (i : Instruction) (bs : List ℕ). bs)
not_by_writing_nothing = demand_2_met.writes_nothing

-- ---- Demand 3: what is accepted is safe on every walk, and what is safe, reached and exactly annotated is accepted; by halves of registers,
-- and for each version
pub demand_3 : (v : ℕ) → Demand3 v verdict_of
demand_3 = demand_3_met.demand3

-- what a refusal tells is so
pub refused_for_a_reason : (s : List ℕ) → T (are_bytes s) → {f : Finding} → verdict_of s ≡ refuses f → Reason s f
refused_for_a_reason = reasons.reason

-- the two ways of saying that something is held agree
pub holds_if_supplied : {G : Type 0} (m : Machine G) → HoldsIfSupplied m
holds_if_supplied m = walk_laws.holds_if_supplied m

-- the demand of version 2 is not met by always accepting, nor by always refusing, nor by a check that accepts whatever one accepts that looks
-- at instruction 0 alone
pub not_by_accepting : ¬ Demand3 2 (λ s. passes)
not_by_accepting = lazy_checks.always_yes

pub not_by_refusing_all : (f : List ℕ → Finding) → ¬ Demand3 2 (λ s. refuses (f s))
not_by_refusing_all = lazy_checks.always_no

pub not_by_waving_through : (check : List ℕ → Judgement) → WavesThrough check → ¬ Demand3 2 check
not_by_waving_through = lazy_checks.only_first

-- ---- Item 7 of paper 02: of bytes that carry version 1 the verdict is the one before there were halves, but for the half that it tells, which
-- is the low one; and demand 3 as it was then, over registers, holds of it. The same lazy checks don't meet that either.
pub version_1_as_before : AsBefore verdict_of
version_1_as_before = same_verdict.as_before

pub demand_3_version_1 : version_1.Demand3 verdict_of
demand_3_version_1 = version_1_met.demand3

pub not_by_accepting_version_1 : ¬ version_1.Demand3 {F = Finding} (λ s. passes)
not_by_accepting_version_1 = version_1_lazy.always_yes

pub not_by_refusing_all_version_1 : (f : List ℕ → Finding) → ¬ version_1.Demand3 (λ s. refuses (f s))
not_by_refusing_all_version_1 = version_1_lazy.always_no

pub not_by_waving_through_version_1 : (check : List ℕ → Judgement) → WavesThrough check → ¬ version_1.Demand3 check
not_by_waving_through_version_1 = version_1_lazy.only_first

-- ---- Items 1 and 7 of paper 02, the maker of annotations, in each version: what the sweeps propose is accepted, contains whatever is
-- accepted, and is exact where every instruction lies on a walk; 24 exactly where nothing is accepted; a refusal leaves the buffer
pub as_asked : Asked (record { answer = infer_outcome; after = infer_buffer })
as_asked = inferred.inferred

-- in version 1 the low halves that it is lent are the entry set, and the high ones play no part (02, Item 7)
pub low_alone : LowAlone (record { answer = infer_outcome; after = infer_buffer })
low_alone = inferred.low_alone

-- there are no more than n + 1 sweeps; `Plan::MOST_SWEEPS` is that for 2048 instructions
pub sweeps_end : (p : Program) → p.entry.low < 2 ^ 64 → p.entry.high < 2 ^ 64 → 0 < p.count → sweeps p ≤ suc p.count
unfolding machine
sweeps_end p low high some = (sweep_laws.proposed p (record { low = low; high = high }) some).ends

-- number and notes agree with the definition of the sweeps over any kind of fact
pub sweeps_reported : (p : Program) → p.entry.low < 2 ^ 64 → p.entry.high < 2 ^ 64 → Reports (machine p) (sweeps p)
sweeps_reported p low high = sweep_laws.reports p (record { low = low; high = high })

pub notes_swept : (p : Program) (k j : ℕ) → j < p.count → (g : Fact) → (In (note p k j) g ↔ Note (machine p) k j g)
notes_swept = sweep_laws.note_is

-- in a version that there is, it is not met by a maker that always answers 24, nor by one that proposes nothing, nor by one that leaves the
-- last sweep out of its count, nor by one that stops after the first sweep; and in version 2 not by one that knows whole registers only
module _ (v : ℕ) (is_known : known v ≡ true) (m : Maker) where
  pub not_by_always_24 : AlwaysNone v m → ¬ AskedIn v m
  not_by_always_24 = lazy_makers.always_none v is_known m

  pub not_by_naming_nothing : NamesNothing v m → ¬ AskedIn v m
  not_by_naming_nothing = lazy_makers.names_nothing v is_known m

  pub not_by_leaving_out_the_last : LeavesOutTheLast v m → ¬ AskedIn v m
  not_by_leaving_out_the_last = lazy_makers.leaves_out_the_last v is_known m

  pub not_by_stopping_early : StopsEarly v m → ¬ AskedIn v m
  not_by_stopping_early = lazy_makers.stops_early v is_known m

pub not_by_whole_registers : (m : Maker) → WholeRegisters m → ¬ AskedIn 2 m
not_by_whole_registers = lazy_makers.whole_registers

-- ---- Item 2 of paper 02: value i of a page's enumeration has its low word at entry 32 + 2i and its high word at 33 + 2i; only words of
-- reserved values are refused, and on page 2 all of them. Demand 2 above is over this rule.
pub special_pairs : Paired meaning
special_pairs = source_laws.paired

-- ---- Item 3 of paper 02: the rows of an opcode, one by one. What is given under an opcode has it, and each row is given under its opcode at
-- one k, in row order and from 0; no opcode has over 25.
pub rows_by_opcode : Indexes row_with
rows_by_opcode = run_laws.indexes

-- a word's row is looked for among those of its opcode, and the row that fits is found, if one does; the reader's lookup gives the line of
-- what is found
pub own_rows_only : OwnRows row_for
own_rows_only = opcode_laws.own_rows

module _ {M : Type 1} where
  pub leads_to_own_rows : line_call.Statement.statement M
  leads_to_own_rows = line_call.Met.met

-- ---- Item 4 of paper 02: what differs between two parcels. Where both open and read, each line tells what differs, whatever differs has its
-- line, the lines stand in order and are numbered from 0, and nothing is listed exactly when the bytes are equal; else which one does not
-- open or read, the first before the second.
pub compares_as_asked : Compares line_outcome
compares_as_asked = compared.compares

-- a set of version 1 is compared as both halves, and two containers of version 1 have the list that they had before there were halves
-- (Item 7)
pub compared_as_both : Version1AsBoth
compared_as_both = version_laws.as_both

pub compared_as_before : Version1AsBefore
compared_as_before = version_laws.as_before

-- what a field of a record holds is what stands there in its word, or 0 where the row lacks the field; and a record that differs differs in
-- a field
pub fields_hold_bits : (bs : List ℕ) (x : Instruction) → read bs ≡ gives x → HoldsBits (little bs) x
fields_hold_bits = bit_laws.holds_bits

pub record_by_fields : (a b : List ℕ) → WellFormed a → WellFormed b → (i : ℕ) → i < shared a b
    → contents (instruction_of a i) ≡ contents (instruction_of b i) → instruction_of a i ≡ instruction_of b i
record_by_fields = bit_laws.record_by_fields

-- it is not met by a comparison that never lists anything, nor by one that lists every field
pub not_by_never_listing : (c : Comparison) → NeverLists c → ¬ Compares c
not_by_never_listing c l a = lazy_comparisons.not_silent c a l

pub not_by_listing_every_field : (c : Comparison) → ListsEveryField c → ¬ Compares c
not_by_listing_every_field c l a = lazy_comparisons.not_everything c a l

-- what opens and reads is what is well-formed; what does not, is refused as the check refuses it: the same number, place, index and register
pub read_when : (s : List ℕ) → (all_read s ≡ passes) ↔ WellFormed s
read_when s = (read_laws.formed s, read_laws.all_of s)

pub refused_as_checked : (a b : List ℕ) (u : Unread) → both_read a b ≡ refuses u → verdict_of (side_of a b u.side) ≡ refuses u.finding
refused_as_checked = diff_refusals.as_checked

pub compare_refusals : (a b : List ℕ) (u : Unread) → both_read a b ≡ refuses u
    → (((2 ≤ u.finding.number) × (u.finding.number ≤ 7)) ⊎ ((10 ≤ u.finding.number) × (u.finding.number ≤ 13))) × (u.finding.register ≡ 64) × (u.finding.half ≡ Neither)
compare_refusals a b u e = let h = diff_refusals.both_early a b e in (h.number, h.register, h.half)

-- what the front hands over of a long input is enough: one byte more than the longest container has
pub compared_by_fronts : (a b : List ℕ) (k : ℕ) → line_outcome (take read_length a) (take read_length b) k ≡ line_outcome a b k
compared_by_fronts = front_laws.compared_by_fronts

-- the three numbers of a line tell it
pub numbers_tell_lines : TellLines
numbers_tell_lines = number_laws.tell_lines

-- the text of a line has all digits of its index and of both contents
pub lines_shown_whole : (a b : List ℕ) → ShownWhole a b
lines_shown_whole = shown_laws.shown_whole

-- ---- Item 5 of paper 02: refusal 3 names the lowest bit that is 1 and that the word's row leaves unassigned, and the check passes number and
-- place of a reading refusal on unchanged. Of the maker `as_asked` says so, of a comparison `compares_as_asked`, and of the lister, whose line
-- has the place for such a refusal and no other, `listed`: each has a field `passed`.
pub names_stray : NamesStray read
names_stray = stray_named.names_stray

pub check_passes_on : PassesOn verdict_of
check_passes_on = passed_on.passes_on

-- what is told of such a bit is so: the row lacks what would stand there
pub lack_true : LackTrue
lack_true = word_stray.lack_true

-- ---- Item 6 of paper 02: every row has a fresh record, and each source of it is constant entry 0, so it reads no register; and a container
-- of a fresh record alone, its flow set to `end`, with an empty entry set and an empty annotation, is accepted, whatever the row
pub fresh_given : FreshGiven
fresh_given = trial_laws.fresh_given

pub fresh_sources : FreshSources
fresh_sources = trial_laws.fresh_sources

pub fresh_reads_none : FreshReadsNone
fresh_reads_none = trial_laws.fresh_reads_none

pub fresh_accepted : FreshAccepted
fresh_accepted = trial_laws.fresh_accepted

-- ---- The listing: of a well-formed parcel a line for each word and then the verdict, else the verdict only; no digit is lost
pub listed : (s : List ℕ) → T (are_bytes s) → ListedAsAsked s (listing s)
listed = asked.listed_as_asked

-- what the lister reads of a long input is enough
pub listing_from_the_front : FromTheFront listing
listing_from_the_front = cut.listing_from_the_front

pub verdict_from_the_front : FromTheFront verdict_of
verdict_from_the_front = cut.verdict_from_the_front

-- ---- What is shown of a parcel to a person: what is read of a long input is enough
pub shown_from_the_front : FromTheFront shown
shown_from_the_front = show_fronts.shown_from_the_front

-- what is told to be left out by the scope is no row's, and has one name
pub left_out_apart : Apart
left_out_apart = stands_apart.stands_apart

-- ---- Replay (02, Item 8): a refusal is one of the rules' and in their order, and touches no register; else the instructions run form a walk, no
-- step reads a half that is not held on it, every step run that the trace has is as recorded but for one that a difference names, and what stopped
-- the run is told as it is
pub replays_as_promised : Replays replay_outcome replay_registers
replays_as_promised = replayed.replays

-- a replay that always answers `end`, one that never compares and one that compares register 0 only do not keep that
module _ (answer : Replay → Outcome Finding Stop) (left : Replay → List ℕ) where
  pub not_by_always_ending : AlwaysEnds answer → ¬ Replays answer left
  not_by_always_ending = lazy_replays.always_ends answer left

  pub not_by_never_comparing : NeverCompares answer → ¬ Replays answer left
  not_by_never_comparing = lazy_replays.never_compares answer left

  pub not_by_comparing_register_0 : ComparesRegister0 answer → ¬ Replays answer left
  not_by_comparing_register_0 = lazy_replays.compares_register_0 answer left

-- the rows that it runs are those of the item
pub nine_rows_named : map (λ (k : ℕ). (row_of k).name) nine_rows
    ≡ "NOP" ∷ "BRANCHZ" ∷ "MOV.i32" ∷ "CLZ.u32" ∷ "POPCOUNT.i32" ∷ "BITREV.i32" ∷ "NOT_OLD.i32" ∷ "FADD.f32" ∷ "MUX.i32" ∷ []
nine_rows_named = nine_laws.named

-- FADD: absolute before negate, the correctly rounded sum, each clamp with 002's identities, and 7FC00000; and wrong additions do not keep that
pub adds_as_promised : Adds fadd
adds_as_promised = addition.adds

pub not_by_negating_first : ¬ Adds negate_first
not_by_negating_first = wrong_additions.negates_first

pub not_by_nan_to_the_upper_bound : ¬ Adds nan_up
not_by_nan_to_the_upper_bound = wrong_additions.takes_nan_up

pub not_by_keeping_minus_zero : ¬ Adds minus_zero_kept
not_by_keeping_minus_zero = wrong_additions.keeps_minus_zero

pub not_by_another_nan : ¬ Adds other_nan
not_by_another_nan = wrong_additions.records_other_nan

-- the rows on whole numbers: CLZ of 0 is 32, and else it counts the zeros above the highest 1; POPCOUNT counts ones, BITREV turns the bits round,
-- NOT_OLD takes each the other way; MUX by the sign bit, by 0, by either zero, and bit by bit; BRANCHZ jumps on nonzero, and with eq on zero
pub clz_of_zero : clz 0 ≡ 32
clz_of_zero = row_laws.clz_zero

pub clz_counts : (x : ℕ) → 0 < x → x < 2 ^ 32 → (2 ^ (31 - clz x) ≤ x) × (x < 2 ^ (32 - clz x))
clz_counts = row_laws.clz_top

pub popcount_counts : (x : ℕ) → x < 2 ^ 32 → popcount x ≡ total (bit x) 32
popcount_counts = row_laws.popcount_bits

pub bitrev_turns : (x i : ℕ) → i < 32 → bit (bitrev x) i ≡ bit x (31 - i)
bitrev_turns = row_laws.bitrev_bit

pub complement_turns : (x i : ℕ) → x < 2 ^ 32 → i < 32 → bit (complement x) i ≡ 1 - bit x i
complement_turns = row_laws.complement_bit

pub mux_by_mask : (mode a b m : ℕ) → mode < 3 → mux mode a b m ≡ cond (mask_passes mode m) a b
mux_by_mask = row_laws.mux_chooses

pub neg_is_the_sign : (m : ℕ) → m < 2 ^ 32 → mask_passes 0 m ≡ eqb (bit m 31) 1
neg_is_the_sign = row_laws.neg_passes

pub int_zero_is_zero : (m : ℕ) → (mask_passes 1 m ≡ true) ↔ (m ≡ 0)
int_zero_is_zero = row_laws.int_zero_passes

pub fp_zero_is_either : (m : ℕ) → m < 2 ^ 32 → (mask_passes 2 m ≡ true) ↔ ((m ≡ 0) ⊎ (m ≡ 2 ^ 31))
fp_zero_is_either = row_laws.fp_zero_passes

pub mux_by_bits : (a b m i : ℕ) → m < 2 ^ 32 → i < 32 → bit (mux 3 a b m) i ≡ cond (eqb (bit m i) 1) (bit a i) (bit b i)
mux_by_bits = row_laws.mux_bit

pub jumps_on_nonzero : (s : ℕ) → (jumps false s ≡ true) ↔ (s ≢ 0)
jumps_on_nonzero = row_laws.jumps_nonzero

pub jumps_on_zero_with_eq : (s : ℕ) → (jumps true s ≡ true) ↔ (s ≡ 0)
jumps_on_zero_with_eq = row_laws.jumps_zero

module _ {M : Type 1} where
  -- `replay::replay`: the answer stands for `replay_outcome`, and the registers afterwards are `replay_registers`
  pub replays : replay_call.Statement.statement M
  replays = replay_call.Met.met

  -- `fadd::fadd`
  pub sums : fadd_call.Statement.statement M
  sums = fadd_call.Met.met

-- the lowest byte of vsp_replay's answer tells `end`, the limit and a difference apart, and from every refusal
pub low_byte_tells : LowByteTells
low_byte_tells = replay_codes.low_byte_tells

-- ---- The C header: 0 means done, 255 no row or no line, forms and words undo one another, a fresh form can be written and, alone in a parcel
-- and with flow `end`, is accepted, and no text is empty
pub zero_means_done : ZeroMeansDone
zero_means_done = promises.zero_means_done

pub fewer_means_none : FewerMeansNone
fewer_means_none = promises.fewer_means_none

pub no_row_means_none : NoRowMeansNone
no_row_means_none = promises.no_row_means_none

pub read_then_written : ReadThenWritten
read_then_written = promises.read_then_written

pub written_then_read : WrittenThenRead
written_then_read = promises.written_then_read

pub fresh_then_written : FreshThenWritten
fresh_then_written = promises.fresh_then_written

pub fresh_then_accepted : FreshThenAccepted
fresh_then_accepted = promises.fresh_then_accepted

pub text_never_empty : TextNeverEmpty
text_never_empty = text_promises.text_never_empty

pub no_name_means_none : NoNameMeansNone
no_name_means_none = text_promises.no_name_means_none
