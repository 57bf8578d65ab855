-- The text of a schedule, line by line.
use Rattle.std.proofs.Common.{◌≡◌, ℕ, ◌+◌, ◌-◌, ◌^◌, ◌<◌, ◌≤◌, List, [], ◌∷◌, ◌++◌, length, refl, sym, ap, ◌∙◌}
use Rattle.std.proofs.Common.{subst, arith}
use Rattle.std.proofs.Common.{map, take, drop, decimal, append_assoc}
use Rattle.std.specs.Prelude.{Option, None, Result, Ok, Err, OnOk, OnErr, All, codes, flat_map, slice_set}
use Rattle.std.proofs.Common.{append-nil}
use Rattle.std.proofs.lemmas.List.{get_or-map, drop-set, drop_all, length-append, length-drop, length-set}
use Rattle.std.proofs.lemmas.List.{length-take-le, take_all}
use Rattle.std.proofs.lemmas.Fmt.{length-decimal-le}
use Rattle.std.proofs.lemmas.List.Elements.{All-head, All-tail}
use Rattle.std.proofs.lemmas.Grind.{flat_map-append}
use Rattle.std.proofs.Math.Seq.{drop-append_seam}
use Rattle.hls_io.specs.Bytes.{AppendsPart, Gathers, TellsAlike}
use Rattle.hls_io.proofs.Steps.{gathers-part, gathers-trans, part-more}
use Rattle.hls_text.specs.Lines.{Text}
use Rattle.hls_report_text.specs.declared.report.Path.{Path}
use Rattle.hls_report_text.specs.declared.report.Run.{Run}
use Rattle.hls_report_text.specs.declared.stretch.Stretch.{Stretch}
use Rattle.hls_report_text.specs.Content.{stretch_of}
use Rattle.hls_report_text.specs.ReportText.{path_text, span_text, stretch_text, with_end}
use Rattle.hls_core_journal.specs.declared.kept_rows.Row.{Row}
use Rattle.hls_core_journal.specs.Inside.Rows.{way_at, run_by, runs_by}
use Rattle.hls_core_journal.specs.Ways.{names_by}
use Rattle.hls_core_journal.specs.Schedule.{tail_text, line_by}

abbrev spelled : Stretch → Text
spelled s = with_end (stretch_text s)

line_same : (names : List Text) (ways : List (Option Path)) (row : Row) → row.way < length ways
    → line_by (map (tail_text names) ways) row ≡ spelled (stretch_of names (run_by ways row))
line_same names ways row lt =
    let path = way_at ways row.way in
    ap (λ t. span_text row.from row.to ++ t) (get_or-map (tail_text names) ways row.way None [] lt)
    ∙ sym (append_assoc (span_text row.from row.to) (32 ∷ path_text (names_by names path)) (10 ∷ []))

lines_same : (names : List Text) (ways : List (Option Path)) (rows : List Row)
    → All (λ (row : Row). row.way < length ways) rows
    → flat_map (line_by (map (tail_text names) ways)) rows
    ≡ flat_map spelled (map (stretch_of names) (runs_by ways rows))
lines_same names ways [] all = refl
lines_same names ways (row ∷ rows) all =
    let P = λ (r : Row). r.way < length ways in
    ap (λ t. t ++ flat_map (line_by (map (tail_text names) ways)) rows)
    (line_same names ways row (All-head P row rows all))
    ∙ ap (λ t. spelled (stretch_of names (run_by ways row)) ++ t) (lines_same names ways rows (All-tail P row rows all))

-- the text by rows and tails is that by runs and names
pub schedule_same : (names : List Text) (ways : List (Option Path)) (rows : List Row) (runs : List Run)
    (tails : List Text) → All (λ (row : Row). row.way < length ways) rows → runs_by ways rows ≡ runs
    → tails ≡ map (tail_text names) ways
    → codes "schedule\n" ++ flat_map (line_by tails) rows
    ≡ codes "schedule\n" ++ flat_map (λ (s : Stretch). with_end (stretch_text s)) (map (stretch_of names) runs)
schedule_same names ways rows runs tails known are same =
    ap (λ (ts : List Text). codes "schedule\n" ++ flat_map (line_by ts) rows) same
    ∙ ap (λ t. codes "schedule\n" ++ t) (lines_same names ways rows known)
    ∙ ap (λ (rs : List Run). codes "schedule\n" ++ flat_map spelled (map (stretch_of names) rs)) are

-- ---- a span

-- a number of 32 bits has ten digits at most
pub short_number : (n m : ℕ) → m ≡ n → n < 2 ^ 32 → length (decimal m) ≤ 10
short_number n m same lt = length-decimal-le 10 m (omega arith) (omega (arith, same, lt)) (omega (arith, same, lt))

pub set_twice : (bytes : List ℕ) (i j x y n : ℕ) → n ≤ length bytes
    → n ≤ length (slice_set (slice_set bytes i x) j y)
set_twice bytes i j x y n le =
    let two = length-set bytes i x in
    let three = length-set (slice_set bytes i x) j y in omega (arith, le, two, three)

pub span_written : (old one new : List ℕ) (from to one_number other behind start end : ℕ) → one_number ≡ from
    → other ≡ to → 22 ≤ end → end ≤ length one → behind + length (decimal other) ≡ end
    → length (decimal other) ≤ 10 → drop behind one ≡ decimal other ++ drop end old
    → drop start new ≡ decimal one_number
    ++ drop (behind - 2) (slice_set (slice_set one (behind - 1) 46) (behind - 2) 46)
    → drop start new ≡ span_text from to ++ drop end old
span_written old one new from to one_number other behind start end is_from is_to enough within fits short second first =
    let two = slice_set one (behind - 1) 46 in
    let three = slice_set two (behind - 2) 46 in
    let rest = drop end old in
    let long_two : length two ≡ length one = length-set one (behind - 1) 46 in
    let after_far : behind - 2 + 1 ≡ behind - 1 = omega (arith, enough, fits, short) in
    let after_near : behind - 1 + 1 ≡ behind = omega (arith, enough, fits, short) in
    let nearer : drop (behind - 1) two ≡ 46 ∷ drop behind one =
    drop-set one (behind - 1) 46 (omega (arith, enough, within, fits, short)) ∙ ap (λ n. 46 ∷ drop n one) after_near in
    let farther : drop (behind - 2) three ≡ 46 ∷ drop (behind - 1) two =
    drop-set two (behind - 2) 46 (omega (arith, long_two, enough, within, fits, short))
    ∙ ap (λ n. 46 ∷ drop n two) after_far in
    let last : drop behind one ≡ decimal to ++ rest = second ∙ ap (λ n. decimal n ++ rest) is_to in
    first ∙ ap (λ t. decimal one_number ++ t) (farther ∙ ap (λ t. 46 ∷ t) (nearer ∙ ap (λ t. 46 ∷ t) last))
    ∙ ap (λ n. decimal n ++ (46 ∷ 46 ∷ (decimal to ++ rest))) is_from
    ∙ sym (append_assoc (decimal from) (46 ∷ 46 ∷ decimal to) rest)

pub rest_of : (bytes : List ℕ) (start count : ℕ) → length bytes ≡ count
    → take (count - start) (drop start bytes) ≡ drop start bytes
rest_of bytes start count whole =
    let long = length-drop start bytes in take_all (count - start) (drop start bytes) (omega (arith, long, whole))

-- a tail that was written at the end of some bytes, and a span before it
abbrev pub with_tail : (zeros tail : List ℕ) (end count : ℕ) → List ℕ
with_tail zeros tail end count = take end zeros ++ (tail ++ drop (count - end) (drop end zeros))

tail_alone : (zeros tail : List ℕ) (end count : ℕ) → length zeros ≡ count
    → with_tail zeros tail end count ≡ take end zeros ++ tail
tail_alone zeros tail end count whole =
    let long = length-drop end zeros in
    ap (λ (t : List ℕ). take end zeros ++ (tail ++ t))
    (drop_all (count - end) (drop end zeros) (omega (arith, long, whole)))
    ∙ ap (λ (t : List ℕ). take end zeros ++ t) (append-nil tail)

pub line_written : (zeros given bytes : List ℕ) (span tail : Text) (start end count : ℕ) → length zeros ≡ count
    → length bytes ≡ length (with_tail zeros given end count)
    → drop start bytes ≡ span ++ drop end (with_tail zeros given end count)
    → end + length tail ≡ count → given ≡ tail → take (count - start) (drop start bytes) ≡ span ++ tail
line_written zeros given bytes span tail start end count room same written fits is =
    let alone = tail_alone zeros given end count room in
    let front = length-take-le end zeros (omega (arith, room, fits)) in
    let all = ap length alone ∙ length-append (take end zeros) given in
    let long = ap length is in
    let whole : length bytes ≡ count = omega (arith, same, front, all, long, fits) in
    let behind : drop end (take end zeros ++ given) ≡ given =
    ap (λ n. drop n (take end zeros ++ given)) (sym front) ∙ drop-append_seam (take end zeros) given in
    rest_of bytes start count whole ∙ written
    ∙ ap (λ t. span ++ t) (ap (λ (t : List ℕ). drop end t) alone ∙ behind ∙ is)

-- ---- a line more

-- so much went through the room, and no fault was met
pub record Wrote (old new : Option (List ℕ)) (was room front : Text) (before now : ℕ) : Type 0 where
  pub gathered : Gathers old new was room front
  pub told : TellsAlike old new
  pub quiet : now ≡ before

-- the lines of these rows went, and those of the others are left
pub record WroteRows (tails : List Text) (items left : List Row) (old new : Option (List ℕ)) (was room : Text)
    (before now : ℕ) : Type 0 where
  pub done : List Row
  pub all : done ++ left ≡ items
  pub known : All (λ (row : Row). row.way < length tails) left
  pub wrote : Wrote old new was room (codes "schedule\n" ++ flat_map (line_by tails) done) before now

line_more : {A : Type 0} (f : A → Text) (head : Text) (done : List A) (x : A)
    → (head ++ flat_map f done) ++ f x ≡ head ++ flat_map f (done ++ x ∷ [])
line_more f head done x =
    append_assoc head (flat_map f done) (f x)
    ∙ ap (λ (t : Text). head ++ (flat_map f done ++ t)) (sym (append-nil (f x)))
    ∙ ap (λ (t : Text). head ++ t) (sym (flat_map-append f done (x ∷ [])))

pub wrote_line : {A : Type 0} (f : A → Text) (head : Text) (done : List A) (x : A) (a b c : Option (List ℕ))
    (was mid room line : Text) → Gathers a b was mid (head ++ flat_map f done) → Gathers b c mid room line
    → line ≡ f x → Gathers a c was room (head ++ flat_map f (done ++ x ∷ []))
wrote_line f head done x a b c was mid room line before now is =
    subst (λ t. Gathers a c was room t)
    (ap (λ (t : Text). (head ++ flat_map f done) ++ t) is ∙ line_more f head done x)
    (gathers-trans a b c was mid room (head ++ flat_map f done) line before now)

pub wrote_part : {A : Type 0} (f : A → Text) (head : Text) (done old new items : List A) (x : A)
    (a b c : Option (List ℕ)) (was mid line : Text) → Gathers a b was mid (head ++ flat_map f done)
    → AppendsPart b c (mid ++ line) → line ≡ f x → done ++ old ≡ items → old ≡ x ∷ new
    → AppendsPart a c (was ++ (head ++ flat_map f items))
wrote_part {A = A} f head done old new items x a b c was mid line before part is all e =
    let front = flat_map f (done ++ x ∷ []) in
    let whole : front ++ flat_map f new ≡ flat_map f items =
    sym (flat_map-append f (done ++ x ∷ []) new)
    ∙ ap (λ (ys : List A). flat_map f ys)
    (append_assoc done (x ∷ []) new ∙ ap (λ (ys : List A). done ++ ys) (sym e) ∙ all) in
    let first : AppendsPart a c (was ++ (head ++ front)) =
    subst (λ t. AppendsPart a c (was ++ t))
    (ap (λ (t : Text). (head ++ flat_map f done) ++ t) is ∙ line_more f head done x)
    (gathers-part a b c was mid (head ++ flat_map f done) line before part) in
    subst (λ t. AppendsPart a c t)
    (append_assoc was (head ++ front) (flat_map f new) ∙ ap (λ t. was ++ t) (append_assoc head front (flat_map f new))
    ∙ ap (λ t. was ++ (head ++ t)) whole)
    (part-more a c (was ++ (head ++ front)) (flat_map f new) first)

pub wrote_all : {A : Type 0} (f : A → Text) (head : Text) (done left items : List A) (a b : Option (List ℕ))
    (was room : Text) → Gathers a b was room (head ++ flat_map f done) → done ++ left ≡ items → left ≡ []
    → Gathers a b was room (head ++ flat_map f items)
wrote_all {A = A} f head done left items a b was room before all none =
    subst (λ (l : List A). Gathers a b was room (head ++ flat_map f l))
    (sym (append-nil done) ∙ ap (λ (l : List A). done ++ l) (sym none) ∙ all) before

-- a part of the first bytes
pub wrote_head : (a c : Option (List ℕ)) (was head rest : Text) → AppendsPart a c (was ++ head)
    → AppendsPart a c (was ++ (head ++ rest))
wrote_head a c was head rest part =
    subst (λ t. AppendsPart a c t) (append_assoc was head rest) (part-more a c (was ++ head) rest part)

-- ---- a span and what is behind it

pub both_went : {T E : Type 0} (a b c : Option (List ℕ)) (was mid room one two span : Text) (r : Result T E)
    → Gathers a b was mid one → one ≡ span → OnOk r (Gathers b c mid room two)
    → OnOk r (Gathers a c was room (span ++ two))
both_went a b c was mid room one two span (Ok x) before is now =
    subst (λ t. Gathers a c was room (t ++ two)) is (gathers-trans a b c was mid room one two before now)
both_went a b c was mid room one two span (Err e) before is now = tt

pub one_went : {T E : Type 0} (a b c : Option (List ℕ)) (was mid one two span : Text) (r : Result T E)
    → Gathers a b was mid one → one ≡ span → OnErr r (AppendsPart b c (mid ++ two))
    → OnErr r (AppendsPart a c (was ++ (span ++ two)))
one_went a b c was mid one two span (Ok x) before is part = tt
one_went a b c was mid one two span (Err e) before is part =
    subst (λ t. AppendsPart a c (was ++ (t ++ two))) is (gathers-part a b c was mid one two before part)

pub on_err : {T E P : Type 0} (r : Result T E) → P → OnErr r P
on_err (Ok x) h = tt
on_err (Err e) h = h
