-- What the proofs here take from elsewhere, passed on from one place. Declares nothing.
pub use Rattle.euler_operators.specs.Common.{At, Corner, HalfEdge, Lone, Point}
pub use Rattle.script_reader.specs.Buffer.{Holding, TakesLine}
pub use Rattle.script_reader.specs.Grammar.{Builder, build, is_ascii, is_comment, kinds_of, name_of, names, opening_of, read_all, request_of, request_of_words, word_of}
unfoldable pub use Rattle.script_reader.specs.Grammar.{arguments}
pub use Rattle.script_reader.specs.Lines.{Advances, Answers, FirstLine, LastAnswer, Reads, lines_of, with_newlines}
unfoldable pub use Rattle.script_reader.specs.Lines.{within_limit}
pub use Rattle.script_reader.specs.Newline.{FirstNewline, Lacks, has_newline}
pub use Rattle.script_reader.specs.Next.{Went}
pub use Rattle.script_reader.specs.Numbers.{all_digits, below, digits_after, integer_of, magnitude, negative, not_negative, number_of, value_after}
pub use Rattle.script_reader.specs.Places.{AnyCorner, Half, InOrOut, Integer, Kind, Meaning, Number, Place, Places, Word, corner_of, half_of, half_with, lone_of, next_of, or_else, point_of, points_of, read, said, way_of, ◌>>=◌}
pub use Rattle.script_reader.specs.Spelling.{ArePoints, Begins, BeginsPlace, Fails, FailsPlace, FailsPoints, FailsWord, HasNoGap, IsAscii, IsAtGap, IsComment, IsGap, IsParted, IsSeparator, LineMisspells, LineSpells, Means, Misspells, SaysCorner, SaysHalf, SaysInteger, SaysNumber, SaysWay, Spells, WordsMisspell, WordsSpell, sign}
pub use Rattle.script_reader.specs.State.{IsFresh, IsStill, ending_of, has_line, is_ready, line_of, reader_of, taken_of, unread_of}
pub use Rattle.script_reader.specs.Words.{IsAtWord, first_by, is_space, joined, word_len, words}
pub use Rattle.script_reader.specs.declared.command.Fault.{Fault}
pub use Rattle.script_reader.specs.declared.command.Fault.TheVariants.{BadNumber, BadWord, NotAscii}
pub use Rattle.script_reader.specs.declared.command.Request.{Request}
pub use Rattle.script_reader.specs.declared.command.Request.TheVariants.{Nothing}
pub use Rattle.script_reader.specs.declared.lines.Ending.{Ending}
pub use Rattle.script_reader.specs.declared.lines.Ending.TheVariants.{Ended, Failed, Open, Over}
pub use Rattle.script_reader.specs.declared.lines.Found.{Found}
pub use Rattle.script_reader.specs.declared.lines.Lines.{Lines}
pub use Rattle.script_reader.specs.declared.name.Name.{Name}
pub use Rattle.script_reader.specs.declared.places.Way.{Way}
pub use Rattle.script_reader.specs.declared.places.Way.TheVariants.{In, Out}
pub use Rattle.std.proofs.Common.{Bool, Err, List, MatchBool, None, Ok, Option, Result, Some, [], add-one, ap, append-nil, append_assoc, arith, bytes_eq, codes, drop, drop-cons, drop-drop, drop_at, false, find, get_or, get_or-drop, get_or-take, if◌then◌else◌, inl, inr, le_refl, length, length-append, length-drop, length-take, min, nat_le, nat_lt, neg_ℤ, one-add, option_and_then, option_map, pos, refl, rules, slice_index, slice_range, subst, suc, sym, take, take-take, take_all, take_at, true, zero, ℕ, ℤ, ◌&&◌, ◌*◌, ◌++◌, ◌+◌, ◌-◌, ◌<◌, ◌==◌, ◌^◌, ◌∙◌, ◌∷◌, ◌≡◌, ◌≢◌, ◌≤◌, ◌⊎◌}
pub use Rattle.std.proofs.KnownBytes.{Consumes-nil, Consumes-trans}
pub use Rattle.std.proofs.Math.Seq.{take-add, take-append-add}
pub use Rattle.std.proofs.lemmas.Bool.{and_parts, cases_Bool, cases_lt}
pub use Rattle.std.proofs.lemmas.Bool.Decides.{nat_tests}
pub use Rattle.std.proofs.lemmas.Grind.{common_steps}
pub use Rattle.std.proofs.lemmas.List.{append_cancel_right, nil_from_length, take-append-le, take_rest}
pub use Rattle.std.proofs.lemmas.Slice.Eq.{bytes_eq-Decides}
pub use Rattle.std.proofs.lemmas.Str.Parse.{IsNumeralModel, digit_from_value, numerals_by_fold}
pub use Rattle.std.specs.Io.KnownBytes.{Consumes, IsAtEnd, Keeps}
pub use Rattle.std.specs.List.{onto_first}
pub use Rattle.std.specs.Str.Parse.{AllDigits, IsNumeral, digits_value}
