-- What is told of a run, in the words of the laws.
use Rattle.std.proofs.Common.{◌≡◌, ℕ, ◌-◌, ◌<◌, ◌≤◌, List, [], ◌∷◌, Bool, true, false, cond, refl}
use Rattle.std.proofs.Common.{sym, ap, ◌∙◌, arith}
use Rattle.std.specs.Prelude.{All, Option, Some, None, map, filter, nat_lt, is_none}
use Rattle.std.proofs.lemmas.List.Elements.{All-from_recursion}
use Rattle.hls_chron.specs.Ticks.{count}
use Rattle.hls_chron.proofs.CountLaws.{count-agree}
use Rattle.hls_text.specs.Lines.{Text}
use Rattle.hls_report_text.specs.declared.report.Account.{Account}
use Rattle.hls_report_text.specs.Content.{Content}
use Rattle.hls_machine.specs.Hierarchy.{Hierarchy, start, was_served, had_asked}
use Rattle.hls_machine.specs.Hierarchy as run
use Rattle.hls_machine.specs.Steps.{Step, state}
use Rattle.hls_machine.specs.Legal.{IsLegal}
use Rattle.hls_machine.specs.Supplied.{end_of, ready_ticks, served_ticks}
use Rattle.hls_legal.specs.declared.stay.Stay.{Stay}
use Rattle.hls_legal.specs.Schedule.{path_at, is_served}
use Rattle.hls_legal.specs.Ready.{is_ready}
use Rattle.hls_legal.specs.Stays.{stays}
use Rattle.hls_legal.specs.Accounts.{end_by, account_of, accounts_of, idle_of}
use Rattle.hls_legal.specs.Accounts as told
use Rattle.hls_legal.specs.Tells.{Tells}
use Rattle.hls_legal.specs.Agrees.{AgreesIn, told_stay, account_in, accounts_in, idle_in}
use Rattle.hls_legal.proofs.ToldSteps.{IsStayTold, AreStaysTold, each_same}
use Rattle.hls_legal.proofs.OrderRuns.{telling_run}

agrees_in : (c : Content) (h : Hierarchy) (stay : run.Stay) → IsStayTold c h stay stay.until
    → AgreesIn c h stay
agrees_in c h stay s = record {
  ready = λ t lo hi. sym (s.asked t lo hi);
  served = λ t lo hi. sym (s.served t lo hi);
}

pub agreed : (c : Content) (steps : List Step) → IsLegal start steps → Tells c steps
    → All (AgreesIn c (state start steps)) (state start steps).stays
agreed c steps legal tells =
    let h = state start steps in
    All-from_recursion (AgreesIn c h) h.stays
    (each_same (λ (stay : run.Stay). IsStayTold c h stay stay.until) (AgreesIn c h) h.stays (agrees_in c h)
    (telling_run c steps legal tells).all.told.stays)

pub stays_told : (c : Content) (steps : List Step) → IsLegal start steps → Tells c steps
    → stays c.answered ≡ map told_stay (state start steps).stays
stays_told c steps legal tells = sym (telling_run c steps legal tells).all.ordered.stays

-- ---- accounts

pub end_same : (horizon now : ℕ) (until : Option ℕ) → now ≡ horizon → end_by horizon until ≡ end_of now until
end_same horizon now None e = sym e
end_same horizon now (Some until) e = refl

ticks_same : (one other : ℕ → Bool) (since end last : ℕ) → end ≡ last
    → ((t : ℕ) → since ≤ t → t < last → one t ≡ other t)
    → count one since (end - since) ≡ count other since (last - since)
ticks_same one other since end last e same =
    ap (λ n. count one since (n - since)) e
    ∙ count-agree one other since (last - since) (λ t lo hi. same t lo (omega arith))

abbrev an_account : (stay : run.Stay) → (to ready served : ℕ) → Account
an_account stay to ready served = record {
  name = stay.name;
  from = stay.since;
  to = to;
  kept = stay.kept;
  ready = ready;
  served = served;
}

same_account : (stay : run.Stay) (to one ready two served three : ℕ) → to ≡ one → ready ≡ two → served ≡ three
    → an_account stay to ready served ≡ an_account stay one two three
same_account stay to one ready two served three e f g = cc

account_same : (c : Content) (h : Hierarchy) (stay : run.Stay) → h.now ≡ c.horizon
    → IsStayTold c h stay stay.until → account_of c (told_stay stay) ≡ account_in h stay
account_same c h stay now s =
    let end = end_same c.horizon h.now stay.until now in
    same_account stay (end_by c.horizon stay.until - 1) (end_of h.now stay.until - 1)
    (count (is_ready c stay.name) stay.since (end_by c.horizon stay.until - stay.since)) (ready_ticks h stay)
    (count (is_served c.stretches stay.name) stay.since (end_by c.horizon stay.until - stay.since))
    (served_ticks h stay) (ap (λ n. n - 1) end)
    (ticks_same (is_ready c stay.name) (had_asked h.past stay.thread) stay.since
    (end_by c.horizon stay.until) (end_of h.now stay.until) end (λ t lo hi. sym (s.asked t lo hi)))
    (ticks_same (is_served c.stretches stay.name) (was_served h.past stay.thread) stay.since
    (end_by c.horizon stay.until) (end_of h.now stay.until) end (λ t lo hi. sym (s.served t lo hi)))

account_if : (one other : Account) (rest others : List Account) (a b : Bool) → a ≡ b → one ≡ other
    → rest ≡ others
    → cond a (one ∷ rest) rest ≡ cond b (other ∷ others) others
account_if one other rest others true true e f g = ap (λ x. x ∷ rest) f ∙ ap (λ l. other ∷ l) g
account_if one other rest others true false e f g = absurd (cc)
account_if one other rest others false true e f g = absurd (cc)
account_if one other rest others false false e f g = g

map_if : {X Y : Type 0} (f : X → Y) (x : X) (xs : List X) (b : Bool)
    → map f (cond b (x ∷ xs) xs) ≡ cond b (f x ∷ map f xs) (map f xs)
map_if f x xs true = refl
map_if f x xs false = refl

accounts_same : (c : Content) (h : Hierarchy) (all : List run.Stay) → h.now ≡ c.horizon → AreStaysTold c h all
    → map (account_of c) (filter (λ (s : Stay). nat_lt s.since (told.end_of c s)) (map told_stay all))
    ≡ map (account_in h) (filter (λ (s : run.Stay). nat_lt s.since (end_of h.now s.until)) all)
accounts_same c h [] now each = refl
accounts_same c h (stay ∷ all) now each =
    let rest = accounts_same c h all now each.1 in
    let these = filter (λ (s : Stay). nat_lt s.since (told.end_of c s)) (map told_stay all) in
    let those = filter (λ (s : run.Stay). nat_lt s.since (end_of h.now s.until)) all in
    let one = nat_lt stay.since (end_by c.horizon stay.until) in
    let other = nat_lt stay.since (end_of h.now stay.until) in
    map_if (account_of c) (told_stay stay) these one
    ∙ account_if (account_of c (told_stay stay)) (account_in h stay) (map (account_of c) these)
    (map (account_in h) those) one other
    (ap (nat_lt stay.since) (end_same c.horizon h.now stay.until now)) (account_same c h stay now each.0) rest
    ∙ sym (map_if (account_in h) stay those other)

pub accounts_told : (c : Content) (steps : List Step) → IsLegal start steps → Tells c steps
    → accounts_of c ≡ accounts_in (state start steps)
accounts_told c steps legal tells =
    let h = state start steps in
    let t = telling_run c steps legal tells in
    ap (λ l. map (account_of c) (filter (λ (s : Stay). nat_lt s.since (told.end_of c s)) l))
    (stays_told c steps legal tells)
    ∙ accounts_same c h h.stays t.now t.all.told.stays

pub idle_told : (c : Content) (steps : List Step) → IsLegal start steps → Tells c steps
    → idle_of c ≡ idle_in (state start steps)
idle_told c steps legal tells =
    let h = state start steps in
    let t = telling_run c steps legal tells in
    ap (count (λ x. is_none (path_at c.stretches x)) 0) (sym t.now)
    ∙ count-agree (λ x. is_none (path_at c.stretches x)) (λ x. is_none (h.past x).to) 0 h.now
    (λ x lo hi. t.all.past.0 x (omega arith))

pub ran_ready : (c : Content) (steps : List Step) → IsLegal start steps → Tells c steps
    → (t : ℕ) (name : Text)
    → t < c.horizon → is_served c.stretches name t ≡ true → is_ready c name t ≡ true
ran_ready c steps legal tells t name lt on =
    let all = telling_run c steps legal tells in
    let now = all.now in
    all.all.past.1 t name (omega arith) on
