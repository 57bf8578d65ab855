-- What is written, piece after piece.
use Rattle.std.proofs.Common.{◌≡◌, ℕ, List, [], ◌∷◌, ◌++◌, refl, sym, ap, ◌∙◌, append_assoc}
use Rattle.std.specs.Prelude.{map, flat_map, get_or, codes, decimal}
use Rattle.std.specs.List.{AllByRecursion}
use Rattle.std.proofs.lemmas.Grind.{flat_map-append}
use Rattle.std.proofs.lemmas.List.{append-nil}
use Rattle.std.proofs.lemmas.List.Folds.{flat_map-map}
use Rattle.hls_text.specs.Lines.{Text}
use Rattle.hls_guarantee.specs.Limits.{IsValid}
use Rattle.hls_scenario.specs.Grammar.{IsCommand}
use Rattle.hls_report_text.specs.declared.report.Seated.{Seated}
use Rattle.hls_report_text.specs.declared.report.Answered.{Answered}
use Rattle.hls_report_text.specs.declared.report.Account.{Account}
use Rattle.hls_report_text.specs.declared.report.Report.{Report}
use Rattle.hls_report_text.specs.Content.{stretch_of}
use Rattle.hls_report_text.specs.ReportText.{answered_lines, stretch_text, account_text, head_lines}
use Rattle.hls_report_text.specs.ReportText.{end_lines, with_end, ended, report_text}
use Rattle.hls_report_text.specs.WellFormed.{AreAnswered, MayAnswer, IsAccount, AreSeats, IsSeated}
use Rattle.hls_scenario.specs.declared.scenario.Command.{Command}

pub commands_answers : (version horizon last : ℕ) (answered : List Answered)
    → AreAnswered version horizon last answered
    → AllByRecursion (λ a. IsCommand version a.command × MayAnswer a.command a.answer) answered
commands_answers version horizon last [] are = tt
commands_answers version horizon last (a ∷ more) are =
    ((are.0, are.1), commands_answers version horizon a.tick more are.4)

pub accounts_kept : (horizon : ℕ) (accounts : List Account) → AllByRecursion (IsAccount horizon) accounts
    → AllByRecursion (λ a. IsValid a.kept) accounts
accounts_kept horizon [] are = tt
accounts_kept horizon (a ∷ more) are = (are.0.kept, accounts_kept horizon more are.1)

pub seats_all : (command : Command) (seats : List Seated) → AreSeats command seats
    → AllByRecursion IsSeated seats
seats_all command [] are = tt
seats_all command (seat ∷ seats) are = are.1

pub ended-append : (xs ys : List Text) → ended (xs ++ ys) ≡ ended xs ++ ended ys
ended-append xs ys = flat_map-append with_end xs ys

ended-answered : (version : ℕ) (answered : List Answered)
    → ended (flat_map (answered_lines version) answered)
    ≡ flat_map (λ a. ended (answered_lines version a)) answered
ended-answered version [] = refl
ended-answered version (a ∷ more) =
    ended-append (answered_lines version a) (flat_map (answered_lines version) more)
    ∙ ap (λ (t : Text). ended (answered_lines version a) ++ t) (ended-answered version more)

pub ended-map : {A : Type 0} (f : A → Text) (xs : List A) → ended (map f xs) ≡ flat_map (λ x. with_end
    (f x)) xs
ended-map f xs = flat_map-map with_end f xs

-- the parts of a report's text
parts : (head answered runs accounts end : List Text)
    → ended (head ++ (answered ++ ((codes "schedule" ∷ runs) ++ ((codes "accounts" ∷ accounts) ++ end))))
    ≡ ended head ++ (ended answered ++ (codes "schedule\n" ++ (ended runs
    ++ (codes "accounts\n" ++ (ended accounts ++ ended end)))))
parts head answered runs accounts end =
    ended-append head (answered ++ ((codes "schedule" ∷ runs) ++ ((codes "accounts" ∷ accounts) ++ end)))
    ∙ ap (λ (t : Text). ended head ++ t)
    (ended-append answered ((codes "schedule" ∷ runs) ++ ((codes "accounts" ∷ accounts) ++ end))
    ∙ ap (λ (t : Text). ended answered ++ (codes "schedule\n" ++ t))
    (ended-append runs ((codes "accounts" ∷ accounts) ++ end)
    ∙ ap (λ (t : Text). ended runs ++ (codes "accounts\n" ++ t)) (ended-append accounts end)))

regroup : (out a b c d e f g : Text)
    → ((((((out ++ a) ++ b) ++ c) ++ d) ++ e) ++ f) ++ g ≡ out ++ (a ++ (b ++ (c ++ (d ++ (e ++ (f ++ g))))))
regroup out a b c d e f g = simp append_assoc

ended-runs : (r : Report) → ended (map stretch_text (map (stretch_of r.names) r.runs))
    ≡ flat_map (λ run. with_end (stretch_text (stretch_of r.names run))) r.runs
ended-runs r = ended-map stretch_text (map (stretch_of r.names) r.runs)
    ∙ flat_map-map (λ s. with_end (stretch_text s)) (stretch_of r.names) r.runs

pub whole_report : (r : Report)
    → (((((([] ++ ended (head_lines r.version r.horizon r.depth)) ++ flat_map (λ a. ended
    (answered_lines r.version a)) r.answered)
    ++ codes "schedule\n") ++ flat_map (λ run. with_end (stretch_text (stretch_of r.names run))) r.runs)
    ++ codes "accounts\n") ++ flat_map (λ a. with_end (account_text a)) r.accounts) ++ ended
    (end_lines r.idle)
    ≡ report_text r
unfolding report_text
whole_report r =
    regroup [] (ended (head_lines r.version r.horizon r.depth)) _ (codes "schedule\n") _ (codes "accounts\n") _
    (ended (end_lines r.idle))
    ∙ sym (parts (head_lines r.version r.horizon r.depth) (flat_map (answered_lines r.version) r.answered)
    (map stretch_text (map (stretch_of r.names) r.runs)) (map account_text r.accounts) (end_lines r.idle)
    ∙ ap (λ (t : Text). ended (head_lines r.version r.horizon r.depth) ++ (t ++ (codes "schedule\n"
    ++ (ended (map stretch_text (map (stretch_of r.names) r.runs))
    ++ (codes "accounts\n" ++ (ended (map account_text r.accounts) ++ ended (end_lines r.idle)))))))
    (ended-answered r.version r.answered)
    ∙ ap (λ (t : Text). ended (head_lines r.version r.horizon r.depth)
    ++ (flat_map (λ a. ended (answered_lines r.version a)) r.answered ++ (codes "schedule\n" ++ (t
    ++ (codes "accounts\n" ++ (ended (map account_text r.accounts) ++ ended (end_lines r.idle)))))))
    (ended-runs r)
    ∙ ap (λ (t : Text). ended (head_lines r.version r.horizon r.depth)
    ++ (flat_map (λ a. ended (answered_lines r.version a)) r.answered ++ (codes "schedule\n"
    ++ (flat_map (λ run. with_end (stretch_text (stretch_of r.names run))) r.runs
    ++ (codes "accounts\n" ++ (t ++ ended (end_lines r.idle)))))))
    (ended-map account_text r.accounts))

head_join : (h d : Text) → h ++ (10 ∷ (codes "depth " ++ (d ++ 10 ∷ [])))
    ≡ (h ++ 10 ∷ []) ++ (codes "depth " ++ ((d ++ 10 ∷ []) ++ []))
head_join h d = sym (append_assoc h (10 ∷ []) _
    ∙ ap (λ (t : Text). h ++ (10 ∷ (codes "depth " ++ t))) (append-nil (d ++ 10 ∷ [])))

regroup_head : (out a v b c d e f : Text)
    → ((((((out ++ a) ++ v) ++ b) ++ c) ++ d) ++ e) ++ f ≡ out ++ (a ++ (v ++ (b ++ (c ++ (d ++ (e ++ f))))))
regroup_head out a v b c d e f = simp append_assoc

pub head_text : (out : Text) (v h d : ℕ)
    → ((((((out ++ codes "hls-report ") ++ decimal v) ++ codes "\nhorizon ") ++ decimal h) ++ codes "\ndepth ")
    ++ decimal d) ++ codes "\n"
    ≡ out ++ ended (head_lines v h d)
head_text out v h d =
    regroup_head out (codes "hls-report ") (decimal v) (codes "\nhorizon ") (decimal h) (codes "\ndepth ")
    (decimal d) (codes "\n")
    ∙ ap (λ (t : Text). out ++ (codes "hls-report " ++ (decimal v ++ (codes "\nhorizon " ++ t))))
    (head_join (decimal h) (decimal d))
    ∙ ap (λ (t : Text). out ++ (codes "hls-report " ++ t))
    (sym (append_assoc (decimal v) (10 ∷ []) (codes "horizon " ++ ((decimal h ++ 10 ∷ [])
    ++ (codes "depth " ++ ((decimal d ++ 10 ∷ []) ++ []))))))

-- the places of a path, and what is written for them
pub places_text : (out : Text) (names : List Text) (places used : List ℕ) → used ≡ places
    → out ++ flat_map (λ place. codes "/" ++ get_or names place []) used
    ≡ out ++ flat_map (λ name. codes "/" ++ name) (map (λ place. get_or names place []) places)
places_text out names places used e =
    ap (λ (ps : List ℕ). out ++ flat_map (λ place. codes "/" ++ get_or names place []) ps) e
    ∙ ap (λ (t : Text). out ++ t)
    (sym (flat_map-map (λ name. codes "/" ++ name) (λ place. get_or names place []) places))
