-- The lines of a report stand for one content.
use Rattle.std.proofs.Common.{◌≡◌, ℕ, ◌^◌, ◌<◌, ◌≤◌, ◌+◌, ◌++◌, true, false, List, [], ◌∷◌, refl, sym, ap}
use Rattle.std.proofs.Common.{◌∙◌, subst, arith, append_assoc, drop, flat_map}
use Rattle.std.specs.Prelude.{◌==◌, codes, decimal, map, Option, Some, None}
use Rattle.std.specs.List.{AllByRecursion, list_any}
use Rattle.hls_text.specs.Lines.{Text}
use Rattle.hls_guarantee.proofs.Spellings.{has_mark}
use Rattle.hls_scenario.specs.declared.scenario.Command.{Command}
use Rattle.hls_scenario.specs.declared.scenario.Item.{Item}
use Rattle.hls_report_text.specs.declared.report.Seated.{Seated}
use Rattle.hls_report_text.specs.declared.report.Answer.{Answer}
use Rattle.hls_report_text.specs.declared.report.Answer.TheVariants.{Done, Refused}
use Rattle.hls_report_text.specs.declared.report.Answered.{Answered}
use Rattle.hls_report_text.specs.declared.report.Account.{Account}
use Rattle.hls_report_text.specs.declared.refusal.Refusal.{Refusal}
use Rattle.hls_report_text.specs.declared.report.Report.{Report}
use Rattle.hls_report_text.specs.declared.stretch.Stretch.{Stretch}
use Rattle.hls_report_text.specs.Content.{Content, content_of}
use Rattle.hls_report_text.specs.ReportText.{item_text, item_of, refusal_text, seat_text, answer_lines}
use Rattle.hls_report_text.specs.ReportText.{answered_lines}
use Rattle.hls_report_text.specs.ReportText.{two_words, span_text, stretch_text, account_text, end_lines}
use Rattle.hls_report_text.specs.ReportText.{accounts_lines, content_lines, report_text}
use Rattle.hls_report_text.specs.WellFormed.{IsSeated, MayAnswer, AreAnswered, Cover, IsAccount, IsContent}
use Rattle.hls_report_text.specs.WellFormed.{IsWellFormed}
use Rattle.hls_text.proofs.Marks.{Lacks, cut_same, number_lacks, number_same}
use Rattle.hls_report_text.proofs.Marks.{name_lacks, marked_same}
use Rattle.hls_report_text.proofs.RefusalTexts.{refusal_same, refusal_line}
use Rattle.hls_report_text.proofs.LineTexts.{item_line, seat_same, seat_line, first_byte, apart}
use Rattle.hls_report.proofs.ItemTexts.{item_same}
use Rattle.hls_report_text.proofs.LineTexts.{IsStretch, stretch_same, stretch_line, account_same}
use Rattle.hls_report_text.proofs.LineTexts.{account_line}
use Rattle.hls_report_text.proofs.LineTexts.{digit_first, horizon_fits}
use Rattle.hls_report_text.proofs.Writings.{seats_all}
use Rattle.hls_scenario.proofs.CanonicalLines.{all_append}

-- the first line, and those after it
abbrev pub first_line : List Text → Text
first_line [] = []
first_line (line ∷ lines) = line

abbrev pub later_lines : List Text → List Text
later_lines [] = []
later_lines (line ∷ lines) = lines

-- ---- seats

-- no seat's line is first
abbrev pub NoSeat : List Text → Type 0
NoSeat lines = (first_byte (first_line lines) == 98) ≡ false

seat_first : (seat : Seated) (lines more : List Text) → NoSeat lines → lines ≡ seat_text seat ∷ more → ⊥
seat_first seat lines more free e = apart (first_line lines) (seat_text seat) free (ap first_line e)

pub seats_front : (ss ts : List Seated) (xs ys : List Text) → AllByRecursion IsSeated ss
    → AllByRecursion IsSeated ts → NoSeat xs → NoSeat ys → map seat_text ss ++ xs ≡ map seat_text ts ++ ys
    → (ss ≡ ts) × (xs ≡ ys)
seats_front [] [] xs ys a b free free_too e = (refl, e)
seats_front [] (t ∷ ts) xs ys a b free free_too e = absurd (seat_first t xs (map seat_text ts ++ ys) free e)
seats_front (s ∷ ss) [] xs ys a b free free_too e = absurd (seat_first s ys (map seat_text ss
    ++ xs) free_too (sym e))
seats_front (s ∷ ss) (t ∷ ts) xs ys a b free free_too e =
    let first = seat_same s t a.0 b.0 (ap first_line e) in
    let more = seats_front ss ts xs ys a.1 b.1 free free_too (ap later_lines e) in
    (ap (λ (u : Seated). u ∷ ss) first ∙ ap (λ (us : List Seated). t ∷ us) more.0, more.1)

-- ---- answers

pub answer_front : (c d : Command) (p q : Answer) (xs ys : List Text) → MayAnswer c p → MayAnswer d q
    → NoSeat xs
    → NoSeat ys → answer_lines p ++ xs ≡ answer_lines q ++ ys → (p ≡ q) × (xs ≡ ys)
answer_front c d (Done ss) (Done ts) xs ys a b free free_too e =
    let more = seats_front ss ts xs ys (seats_all c ss a) (seats_all d ts b) free free_too
    (ap later_lines e) in
    (ap (λ (us : List Seated). Done us) more.0, more.1)
answer_front c d (Done ss) (Refused r) xs ys a b free free_too e =
    absurd (apart (codes "done") (codes "refused " ++ refusal_text r) refl (ap (λ ls. drop 2
    (first_line ls)) e))
answer_front c d (Refused r) (Done ts) xs ys a b free free_too e =
    absurd (apart (codes "refused " ++ refusal_text r) (codes "done") refl (ap (λ ls. drop 2
    (first_line ls)) e))
answer_front c d (Refused r) (Refused s) xs ys a b free free_too e =
    let same = refusal_same r s a b (ap (λ ls. drop 10 (first_line ls)) e) in
    (ap (λ (t : Refusal). Refused t) same, ap later_lines e)

-- ---- commands with their answers

abbrev pub then_schedule : List Text → List Text
then_schedule xs = codes "schedule" ∷ xs

pub no_seat_next : (v : ℕ) (answered : List Answered) (xs : List Text)
    → NoSeat (flat_map (answered_lines v) answered ++ then_schedule xs)
no_seat_next v [] xs = refl
no_seat_next v (a ∷ more) xs = refl

made : Item → Answer → Answered
made item answer = record { tick = item.tick; command = item.command; answer = answer }

pub answered_front : (v h l m : ℕ) (ps qs : List Answered) (xs ys : List Text) → h ≤ 1000000 → AreAnswered v h l ps
    → AreAnswered v h m qs
    → flat_map (answered_lines v) ps ++ then_schedule xs ≡ flat_map (answered_lines v) qs ++ then_schedule ys
    → (ps ≡ qs) × (xs ≡ ys)
unfolding made
answered_front v h l m [] [] xs ys fits a b e = (refl, ap later_lines e)
answered_front v h l m [] (t ∷ ts) xs ys fits a b e =
    absurd (apart (codes "schedule") (item_text v (item_of t)) refl (ap first_line e))
answered_front v h l m (s ∷ ss) [] xs ys fits a b e =
    absurd (apart (item_text v (item_of s)) (codes "schedule") refl (ap first_line e))
answered_front v h l m (s ∷ ss) (t ∷ ts) xs ys fits a b e =
    let s_below : s.tick < h = a.3 in
    let t_below : t.tick < h = b.3 in
    let item = item_same v (item_of s) (item_of t) (a.0, omega arith) (b.0, omega arith) (ap first_line e) in
    let f = sym (append_assoc (answer_lines s.answer) (flat_map (answered_lines v) ss) (then_schedule xs))
    ∙ ap later_lines e ∙ append_assoc (answer_lines t.answer) (flat_map (answered_lines v) ts)
    (then_schedule ys) in
    let answer = answer_front s.command t.command s.answer t.answer _ _ a.1 b.1 (no_seat_next v ss xs)
    (no_seat_next v ts ys) f in
    let more = answered_front v h s.tick t.tick ss ts xs ys fits a.4 b.4 answer.1 in
    let one : made (item_of s) s.answer ≡ made (item_of t) s.answer =
    ap (λ (i : Item). made i s.answer) item in
    let two : made (item_of t) s.answer ≡ made (item_of t) t.answer =
    ap (λ (p : Answer). made (item_of t) p) answer.0 in (
      ap (λ (u : Answered). u ∷ ss) (one ∙ two) ∙ ap (λ (us : List Answered). t ∷ us) more.0,
      more.1,
    )

-- ---- stretches

pub cover_reaches : (from : ℕ) (last : Option (Option (List Text))) (ss : List Stretch) (end : ℕ)
    → Cover from last ss end → from ≤ end
cover_reaches from last [] end is = omega (arith, is)
cover_reaches from last (s ∷ ss) end is =
    let more = cover_reaches (s.to + 1) (Some s.path) ss end is.4 in
    let le : from ≤ s.to = is.1 in omega arith

pub cover_stretches : (from : ℕ) (last : Option (Option (List Text))) (ss : List Stretch) (end : ℕ)
    → end ≤ 1000000 → Cover from last ss end → AllByRecursion IsStretch ss
cover_stretches from last [] end fits is = tt
cover_stretches from last (s ∷ ss) end fits is =
    let more = cover_reaches (s.to + 1) (Some s.path) ss end is.4 in
    let le : from ≤ s.to = is.1 in
    let at : s.from ≡ from = is.0 in (
      record { forward = omega arith; within = omega arith; path = is.2 },
      cover_stretches (s.to + 1) (Some s.path) ss end fits is.4,
    )

abbrev pub then_accounts : List Text → List Text
then_accounts xs = codes "accounts" ∷ xs

pub stretch_not_accounts : (s : Stretch) → IsStretch s → stretch_text s ≡ codes "accounts" → ⊥
stretch_not_accounts s is e =
    let forward = is.forward in
    let within = is.within in
    let low : first_byte (stretch_text s) < 58 =
    subst (λ (t : Text). first_byte t < 58)
    (sym (append_assoc (decimal s.from) (codes ".." ++ decimal s.to) _)) (digit_first s.from _
    (omega arith)) in
    let high : first_byte (codes "accounts") < 58 = subst (λ (t : Text). first_byte t < 58) e low in
    absurd (too_low high)
  where
    too_low : 97 < 58 → ⊥
    too_low lt = omega arith

pub stretches_front : (ss ts : List Stretch) (xs ys : List Text) → AllByRecursion IsStretch ss
    → AllByRecursion IsStretch ts
    → map stretch_text ss ++ then_accounts xs ≡ map stretch_text ts ++ then_accounts ys → (ss ≡ ts) × (xs
    ≡ ys)
stretches_front [] [] xs ys a b e = (refl, ap later_lines e)
stretches_front [] (t ∷ ts) xs ys a b e = absurd (stretch_not_accounts t b.0 (sym (ap first_line e)))
stretches_front (s ∷ ss) [] xs ys a b e = absurd (stretch_not_accounts s a.0 (ap first_line e))
stretches_front (s ∷ ss) (t ∷ ts) xs ys a b e =
    let first = stretch_same s t a.0 b.0 (ap first_line e) in
    let more = stretches_front ss ts xs ys a.1 b.1 (ap later_lines e) in
    (ap (λ (u : Stretch). u ∷ ss) first ∙ ap (λ (us : List Stretch). t ∷ us) more.0, more.1)

-- ---- accounts

abbrev pub idle_text : ℕ → Text
idle_text idle = codes "idle " ++ decimal idle

pub account_not_idle : (h : ℕ) (a : Account) (idle : ℕ) → h ≤ 1000000 → IsAccount h a → idle < 2 ^ 32
    → account_text a ≡ idle_text idle → ⊥
account_not_idle h a idle fits is lt e =
    let cut = cut_same 32 a.name (two_words (span_text a.from a.to) _) (codes "idle") (decimal idle) e
    (name_lacks 32 a.name (omega arith) is.named) refl in
    let lacks : Lacks 46 (decimal idle) = number_lacks 46 idle (omega arith) (omega arith) in
    let has = ap (list_any (λ b. b == 46)) (sym cut.1
    ∙ append_assoc (decimal a.from) (codes ".." ++ decimal a.to) _) in
    let f : false ≡ true = sym lacks ∙ has ∙ has_mark 46 (decimal a.from) _ in cc

pub accounts_front : (h : ℕ) (ps qs : List Account) (i j : ℕ) (xs ys : List Text) → h ≤ 1000000
    → AllByRecursion (IsAccount h) ps → AllByRecursion (IsAccount h) qs → i < 2 ^ 32 → j < 2 ^ 32
    → map account_text ps ++ idle_text i ∷ xs ≡ map account_text qs ++ idle_text j ∷ ys
    → (ps ≡ qs) × (i ≡ j) × (xs ≡ ys)
accounts_front h [] [] i j xs ys fits a b lt lt_too e = (
  refl,
  number_same i j (omega arith) (omega arith) (ap (λ ls. drop 5 (first_line ls)) e),
  ap later_lines e,
)
accounts_front h [] (b ∷ qs) i j xs ys fits is is_too lt lt_too e =
    absurd (account_not_idle h b i fits is_too.0 lt (sym (ap first_line e)))
accounts_front h (a ∷ ps) [] i j xs ys fits is is_too lt lt_too e =
    absurd (account_not_idle h a j fits is.0 lt_too (ap first_line e))
accounts_front h (a ∷ ps) (b ∷ qs) i j xs ys fits is is_too lt lt_too e =
    let first = account_same h a b fits is.0 is_too.0 (ap first_line e) in
    let more = accounts_front h ps qs i j xs ys fits is.1 is_too.1 lt lt_too (ap later_lines e) in (
      ap (λ (u : Account). u ∷ ps) first ∙ ap (λ (us : List Account). b ∷ us) more.0,
      more.1,
      more.2,
    )

-- ---- all lines

made_content : (version horizon depth : ℕ) → List Answered → List Stretch → List Account → ℕ → Content
made_content version horizon depth answered stretches accounts idle = record {
  version = version;
  horizon = horizon;
  depth = depth;
  answered = answered;
  stretches = stretches;
  accounts = accounts;
  idle = idle;
}

pub content_same : (c d : Content) → IsContent c → IsContent d → content_lines c ≡ content_lines d → c ≡ d
unfolding made_content
content_same c d is is_too e =
    let fits = horizon_fits c.version c.horizon is.horizon in
    let fits_too = horizon_fits d.version d.horizon is_too.horizon in
    let first : c.version ≤ 2 = is.version.1 in
    let first_too : d.version ≤ 2 = is_too.version.1 in
    let low = is.depth in
    let low_too = is_too.depth in
    let version = number_same c.version d.version (omega arith) (omega arith)
    (ap (λ ls. drop 11 (first_line ls)) e) in
    let horizon = number_same c.horizon d.horizon (omega arith) (omega arith)
    (ap (λ ls. drop 8 (first_line (later_lines ls))) e) in
    let depth = number_same c.depth d.depth (omega arith) (omega arith)
    (ap (λ ls. drop 6 (first_line (later_lines (later_lines ls)))) e) in
    let more : List Text = map stretch_text c.stretches ++ (accounts_lines c.accounts ++ end_lines c.idle) in
    let more_too : List Text = map stretch_text d.stretches ++ (accounts_lines d.accounts ++ end_lines d.idle) in
    let answered = answered_front c.version c.horizon 0 0 c.answered d.answered more more_too fits is.answered
    (subst (λ v. AreAnswered v c.horizon 0 d.answered) (sym version)
    (subst (λ h. AreAnswered d.version h 0 d.answered) (sym horizon) is_too.answered))
    (ap (λ ls. later_lines (later_lines (later_lines ls))) e
    ∙ ap (λ v. flat_map (answered_lines v) d.answered ++ then_schedule more_too) (sym version)) in
    let stretches = stretches_front c.stretches d.stretches (map account_text c.accounts ++ end_lines c.idle)
    (map account_text d.accounts ++ end_lines d.idle)
    (cover_stretches 0 None c.stretches c.horizon fits is.cover)
    (cover_stretches 0 None d.stretches d.horizon fits_too is_too.cover) answered.1 in
    let accounts = accounts_front c.horizon c.accounts d.accounts c.idle d.idle (codes "end" ∷ [])
    (codes "end" ∷ []) fits is.accounts
    (subst (λ h. AllByRecursion (IsAccount h) d.accounts) (sym horizon) is_too.accounts) is.idle is_too.idle
    stretches.1 in
    let v = ap (λ x. made_content x c.horizon c.depth c.answered c.stretches c.accounts c.idle) version in
    let h = ap (λ x. made_content d.version x c.depth c.answered c.stretches c.accounts c.idle) horizon in
    let k = ap (λ x. made_content d.version d.horizon x c.answered c.stretches c.accounts c.idle) depth in
    let a = ap (λ x. made_content d.version d.horizon d.depth x c.stretches c.accounts c.idle) answered.0 in
    let s = ap (λ x. made_content d.version d.horizon d.depth d.answered x c.accounts c.idle) stretches.0 in
    let t = ap (λ x. made_content d.version d.horizon d.depth d.answered d.stretches x c.idle) accounts.0 in
    let i = ap (λ x. made_content d.version d.horizon d.depth d.answered d.stretches d.accounts x) accounts.1 in
    v ∙ h ∙ k ∙ a ∙ s ∙ t ∙ i

-- ---- each is one line

abbrev AreOneLine : List Text → Type 0
AreOneLine lines = AllByRecursion (Lacks 10) lines

seats_lines : (seats : List Seated) → AllByRecursion IsSeated seats → AreOneLine (map seat_text seats)
seats_lines [] are = tt
seats_lines (s ∷ ss) are = (seat_line s are.0, seats_lines ss are.1)

answer_one : (c : Command) (p : Answer) → MayAnswer c p → AreOneLine (answer_lines p)
answer_one c (Done seats) is = (refl, seats_lines seats (seats_all c seats is))
answer_one c (Refused r) is = (refusal_line r is, tt)

answered_one : (v h l : ℕ) (ps : List Answered) → h ≤ 1000000 → AreAnswered v h l ps
    → AreOneLine (flat_map (answered_lines v) ps)
answered_one v h l [] fits are = tt
answered_one v h l (a ∷ more) fits are =
    let below : a.tick < h = are.3 in
    all_append (Lacks 10) (answered_lines v a) (flat_map (answered_lines v) more)
    (item_line v (item_of a) (are.0, omega arith), answer_one a.command a.answer are.1)
    (answered_one v h a.tick more fits are.4)

stretches_one : (ss : List Stretch) → AllByRecursion IsStretch ss → AreOneLine (map stretch_text ss)
stretches_one [] are = tt
stretches_one (s ∷ ss) are = (stretch_line s are.0, stretches_one ss are.1)

accounts_one : (h : ℕ) (ps : List Account) → h ≤ 1000000 → AllByRecursion (IsAccount h) ps
    → AreOneLine (map account_text ps)
accounts_one h [] fits are = tt
accounts_one h (a ∷ ps) fits are = (account_line h a fits are.0, accounts_one h ps fits are.1)

small_line : (n : ℕ) → n < 2 ^ 32 → Lacks 10 (decimal n)
small_line n lt = number_lacks 10 n (omega arith) (omega arith)

pub content_one : (c : Content) → IsContent c → AreOneLine (content_lines c)
content_one c is =
    let fits = horizon_fits c.version c.horizon is.horizon in
    let first : c.version ≤ 2 = is.version.1 in
    let low = is.depth in (
      small_line c.version (omega arith),
      (
        small_line c.horizon (omega arith),
        (
          small_line c.depth (omega arith),
          all_append (Lacks 10) (flat_map (answered_lines c.version) c.answered) _
              (answered_one c.version c.horizon 0 c.answered fits is.answered) (
                refl,
                all_append (Lacks 10) (map stretch_text c.stretches) _
                    (stretches_one c.stretches (cover_stretches 0 None c.stretches c.horizon fits is.cover)) (
                      refl,
                      all_append (Lacks 10) (map account_text c.accounts) _
                          (accounts_one c.horizon c.accounts fits is.accounts)
                          (small_line c.idle is.idle, (refl, tt)),
                    ),
              ),
        ),
      ),
    )

-- one text is of one content
pub report_same : (r s : Report) → IsWellFormed r → IsWellFormed s → report_text r ≡ report_text s
    → content_of r ≡ content_of s
unfolding report_text
report_same r s is is_too e =
    content_same (content_of r) (content_of s) is.content is_too.content
    (marked_same 10 (content_lines (content_of r)) (content_lines (content_of s))
    (content_one (content_of r) is.content) (content_one (content_of s) is_too.content) e)
