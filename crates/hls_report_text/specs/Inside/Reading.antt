-- What stands in a line, as the reader's private functions read it. ReportText says which lines there are.
use Rattle.std.specs.Prelude.{ℕ, ◌^◌, ◌==◌, codes}
use Rattle.std.specs.Prelude.{Option, Some, None, if◌then◌else◌}
use Rattle.std.specs.Str.{bytes_eq}
use Rattle.hls_text.specs.Lines.{Text}
use Rattle.hls_chron.specs.Name.{is_name}
use Rattle.hls_chron.specs.declared.plain.Kind.{Kind}
use Rattle.hls_chron.specs.declared.plain.Kind.TheVariants.{Fp, Edf, Sfq, Rr, Wheel, Join}
use Rattle.hls_text.specs.Cuts.{cut_at}
use Rattle.hls_text.specs.Options.{◌>>=◌, first_of_two}
use Rattle.hls_text.specs.Cuts.{after_words}
use Rattle.hls_text.specs.Decimals.{number_below}
use Rattle.hls_report_text.specs.declared.refusal.Refusal.{Refusal}
use Rattle.hls_report_text.specs.declared.refusal.Refusal.TheVariants as refusals

-- ---- words

abbrev pub name_at : Text → Option Text
name_at text = if is_name text then Some text else None

abbrev pub place_at : Text → Option (Option Text)
place_at text = if bytes_eq text (codes "cpu") then Some None else (name_at text >>= λ name. Some (Some name))

abbrev pub count_at : Text → Option ℕ
count_at text = number_below (2 ^ 32) text

abbrev pub kind_at : Text → Option Kind
kind_at text =
    if bytes_eq text (codes "fp") then Some Fp else
    (if bytes_eq text (codes "edf") then Some Edf else
    (if bytes_eq text (codes "sfq") then Some Sfq else
    (if bytes_eq text (codes "rr") then Some Rr else
    (if bytes_eq text (codes "wheel") then Some Wheel else
    (if bytes_eq text (codes "join") then Some Join else None)))))

-- ---- refusals

abbrev pub named_at : (Text → Refusal) → Text → Option Refusal
named_at make text = name_at text >>= λ name. Some (make name)

abbrev pub counted_at : (ℕ → Refusal) → Text → Option Refusal
counted_at make text = count_at text >>= λ count. Some (make count)

-- a count that is always the same
abbrev pub constant_at : ℕ → (ℕ → Refusal) → Text → Option Refusal
constant_at wanted make text = count_at text >>= λ count. if count == wanted then Some (make count) else None

abbrev pub wrong_sort_at : Text → Option Refusal
wrong_sort_at text = place_at text >>= λ place. Some (refusals.WrongSort place)

abbrev pub not_empty_at : Text → Option Refusal
not_empty_at text = cut_at 32 text >>= λ p. name_at p.0 >>= λ name. count_at p.1 >>= λ seats.
    Some (refusals.NotEmpty name seats)

abbrev pub seats_full_at : Text → Option Refusal
seats_full_at text = cut_at 32 text >>= λ p. place_at p.0 >>= λ place. count_at p.1 >>= λ seats.
    Some (refusals.SeatsFull place seats)

abbrev pub kit_empty_at : Text → Option Refusal
kit_empty_at text = cut_at 32 text >>= λ p. kind_at p.0 >>= λ kind. count_at p.1 >>= λ used.
    Some (refusals.KitEmpty kind used)

abbrev pub no_room_at : Text → Option Refusal
no_room_at text = cut_at 32 text >>= λ p. number_below (2 ^ 128) p.0 >>= λ free.
    number_below (2 ^ 128) p.1 >>= λ asked. Some (refusals.NoRoom free asked)

abbrev pub no_derivation_at : Text → Option Refusal
no_derivation_at text = cut_at 32 text >>= λ p. name_at p.0 >>= λ name. number_below 7 p.1 >>= λ depth.
    Some (refusals.NoDerivation name depth)

unfoldable pub late_refusal_at : Text → Option Refusal
late_refusal_at text =
    first_of_two (after_words (codes "20 TooDeep ") text) (counted_at refusals.TooDeep)
    (first_of_two (after_words (codes "21 TooManyShares ") text) (counted_at refusals.TooManyShares)
    (first_of_two (after_words (codes "22 KitEmpty ") text) kit_empty_at
    (first_of_two (after_words (codes "23 NoRoom ") text) no_room_at
    (after_words (codes "24 NoDerivation ") text >>= no_derivation_at))))

unfoldable pub seat_refusal_at : Text → Option Refusal
seat_refusal_at text =
    first_of_two (after_words (codes "15 NotEmpty ") text) not_empty_at
    (first_of_two (after_words (codes "16 TermsUnfit ") text) (named_at refusals.TermsUnfit)
    (first_of_two (after_words (codes "17 PriorityTaken ") text) (counted_at refusals.PriorityTaken)
    (first_of_two (after_words (codes "18 SeatsFull ") text) seats_full_at
    (first_of_two (after_words (codes "19 Cycle ") text) (named_at refusals.Cycle)
    (late_refusal_at text)))))

unfoldable pub refusal_at : Text → Option Refusal
refusal_at text =
    first_of_two (after_words (codes "10 NameTaken ") text) (named_at refusals.NameTaken)
    (first_of_two (after_words (codes "11 NoSuchName ") text) (named_at refusals.NoSuchName)
    (first_of_two (after_words (codes "12 WrongSort ") text) wrong_sort_at
    (first_of_two (after_words (codes "13 TooManyNodes ") text)
    (constant_at 64 refusals.TooManyNodes)
    (first_of_two (after_words (codes "14 TooManyThreads ") text)
    (constant_at 256 refusals.TooManyThreads) (seat_refusal_at text)))))

-- ---- the parts of lines

-- the name and the port of a seat, and what stands behind them
unfoldable pub seat_front_at : Text → Option (Text × ℕ × Text)
seat_front_at text = after_words (codes "by ") text >>= λ rest. cut_at 32 rest >>= λ p.
    name_at p.0 >>= λ name. cut_at 32 p.1 >>= λ q. number_below 4 q.0 >>= λ port. Some (name, port, q.1)

-- the first tick and the last
unfoldable pub span_at : Text → Option (ℕ × ℕ)
span_at text = cut_at 46 text >>= λ p. count_at p.0 >>= λ from. after_words (codes ".") p.1 >>= λ rest.
    count_at rest >>= λ to. Some (from, to)

-- a span, and what stands behind it and a space
unfoldable pub spanned_at : Text → Option (ℕ × ℕ × Text)
spanned_at text = cut_at 32 text >>= λ p. span_at p.0 >>= λ span. Some (span.0, span.1, p.1)

-- a name and a span, and what stands behind them
abbrev pub account_front_at : Text → Option (Text × ℕ × ℕ × Text)
account_front_at text = cut_at 32 text >>= λ p. name_at p.0 >>= λ name. spanned_at p.1 >>= λ s.
    Some (name, s.0, s.1, s.2)

-- how many ticks were ready and were served
unfoldable pub ticks_at : Text → Option (ℕ × ℕ)
ticks_at text = after_words (codes " ready ") text >>= λ rest. cut_at 32 rest >>= λ p. count_at p.0 >>= λ
    ready.
    after_words (codes "served ") p.1 >>= λ more. count_at more >>= λ served. Some (ready, served)
