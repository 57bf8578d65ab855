-- The accounts of tallies.
use Rattle.std.proofs.Common.{◌≡◌, ℕ, ◌+◌, ◌-◌, ◌<◌, ◌≤◌, ◌^◌, List, Bool, sym, ap, ◌∙◌, arith, map, filter}
use Rattle.std.proofs.Common.{[], ◌∷◌, ◌++◌, cond, length, reverse, append_assoc}
use Rattle.std.specs.Prelude.{Option, Some, None, true, false, nat_lt, min, Result, Ok, Err, OnOk}
use Rattle.std.proofs.lemmas.List.{append-nil, reverse-append}
use Rattle.std.proofs.lemmas.List.Elements.{filter-append}
use Rattle.std.proofs.Math.Nat.{min-eq_left}
use Rattle.hls_chron.proofs.CountLaws.{count-le}
use Rattle.hls_report_text.specs.declared.report.Account.{Account}
use Rattle.hls_machine.specs.Hierarchy.{Hierarchy, Stay, had_asked}
use Rattle.hls_machine.specs.Supplied.{end_of, ready_ticks}
use Rattle.hls_legal.specs.Agrees.{accounts_in, account_in}
use Rattle.hls_core_stays.specs.Tallies.{AreStays, IsTally, waited, lasts, lasting}
use Rattle.hls_core_stays.specs.Inside.Accounts.{account_by, accounts_by}
use Rattle.hls_core_stays.specs.declared.stays.Stays.{Stays}
use Rattle.hls_core_stays.specs.declared.tally.Tally.{Tally}
use Rattle.hls_core_stays.proofs.Lists.{filter_alike, map_append}
use Rattle.hls_core_stays.proofs.Lasting.{filter_within}

abbrev pub lasts_at : (now : ℕ) → Tally → Bool
lasts_at now t = nat_lt t.since (end_of now t.until)

-- a stay had at least one tick
abbrev lasted : (now : ℕ) → Stay → Bool
lasted now stay = nat_lt stay.since (end_of now stay.until)

not_lasted : (now since : ℕ) (until : Option ℕ) → lasts since until ≡ false → nat_lt since (end_of now until) ≡ false
not_lasted now since None off = absurd (cc)
not_lasted now since (Some t) off = off

lasted_of : (now : ℕ) (stays : List Stay) → filter (lasted now) (lasting stays) ≡ filter (lasted now) stays
lasted_of now stays =
    filter_within (λ (x : Stay). lasts x.since x.until) (lasted now) stays
    (λ x off. not_lasted now x.since x.until off)

-- lists of the same stays that are open or lasted have the same that had a tick
lasted_all : (h : Hierarchy) (kept : List Stay) → lasting kept ≡ lasting h.stays
    → filter (lasted h.now) kept ≡ filter (lasted h.now) h.stays
lasted_all h kept same =
    sym (lasted_of h.now kept) ∙ ap (filter (lasted h.now)) same ∙ lasted_of h.now h.stays

account_is : (h : Hierarchy) (stay : Stay) (tally : Tally) → IsTally h stay tally
    → end_of h.now stay.until < 2 ^ 32 → account_by h.now tally ≡ account_in h stay
account_is h stay tally is small =
    let most = count-le (had_asked h.past stay.thread) stay.since (end_of h.now stay.until - stay.since) in
    let ready = is.ready in
    let fits : tally.ready + waited (end_of h.now tally.until) tally.ready_since ≤ 2 ^ 32 - 1 =
    omega (arith, most, ready, small) in
    let all : min (tally.ready + waited (end_of h.now tally.until) tally.ready_since) (2 ^ 32 - 1)
    ≡ ready_ticks h stay = min-eq_left fits ∙ is.ready in
    let end : end_of h.now tally.until - 1 ≡ end_of h.now stay.until - 1 =
    ap (λ u. end_of h.now u - 1) is.until in
    λ i. record {
      name = is.name i;
      from = is.since i;
      to = end i;
      kept = is.kept i;
      ready = all i;
      served = is.served i;
    }

pub accounts_told : (s : Stays) (h : Hierarchy) (now : ℕ) (accounts : List Account) → AreStays s h → h.now ≡ now
    → now < 2 ^ 32 → accounts ≡ accounts_by now s.tallies.items → accounts ≡ accounts_in h
accounts_told s h now accounts are same small is =
    is
    ∙ ap (λ n. map (account_by n) (filter (lasts_at n) s.tallies.items)) (sym same)
    ∙ filter_alike (lasts_at h.now) (lasted h.now) (account_by h.now) (account_in h) s.tallies.items are.kept
    are.are.many (λ i tally stay e f. (let x = are.are.each i stay tally f e in (
      ap (λ n. nat_lt n (end_of h.now tally.until)) x.since
          ∙ ap (λ u. nat_lt stay.since (end_of h.now u)) x.until,
      account_is h stay tally x (let past = x.past in omega (arith, past, same, small)),
    )))
    ∙ ap (map (account_in h)) (lasted_all h are.kept are.all)

-- ---- tallies that are taken away, the last first

pub accounts_append : (now : ℕ) (xs ys : List Tally)
    → accounts_by now (xs ++ ys) ≡ accounts_by now xs ++ accounts_by now ys
accounts_append now xs ys =
    ap (map (account_by now)) (filter-append (lasts_at now) xs ys)
    ∙ map_append (account_by now) (filter (lasts_at now) xs) (filter (lasts_at now) ys)

pub put_one : (now : ℕ) (tally : Tally) (old new : List Account) → lasts_at now tally ≡ true
    → new ≡ old ++ account_by now tally ∷ [] → reverse new ≡ accounts_by now (tally ∷ []) ++ reverse old
put_one now tally old new on push =
    ap reverse push ∙ reverse-append old (account_by now tally ∷ [])
    ∙ ap (λ (b : Bool). map (account_by now) (cond b (tally ∷ []) []) ++ reverse old) (sym on)

pub put_none : (now : ℕ) (tally : Tally) (old : List Account) → lasts_at now tally ≡ false
    → reverse old ≡ accounts_by now (tally ∷ []) ++ reverse old
put_none now tally old off =
    ap (λ (b : Bool). map (account_by now) (cond b (tally ∷ []) []) ++ reverse old) (sym off)

-- what is told of the tallies that are left and of those that were taken
abbrev pub IsTaking : (now : ℕ) → List Tally → List Account → List Account → Type 0
IsTaking now left accounts whole = accounts_by now left ++ reverse accounts ≡ whole

took_one : (now : ℕ) (left next : List Tally) (tally : Tally) (accounts new : List Account)
    → left ≡ next ++ tally ∷ [] → reverse new ≡ accounts_by now (tally ∷ []) ++ reverse accounts
    → IsTaking now next new (accounts_by now left ++ reverse accounts)
took_one now left next tally accounts new is put =
    ap (λ l. accounts_by now next ++ l) put
    ∙ sym (append_assoc (accounts_by now next) (accounts_by now (tally ∷ [])) (reverse accounts))
    ∙ ap (λ l. l ++ reverse accounts) (sym (accounts_append now next (tally ∷ [])))
    ∙ ap (λ l. accounts_by now l ++ reverse accounts) (sym is)

-- where the account of the last was put, or not for want of memory
pub took_last : {X E : Type 0} (now : ℕ) (left next : List Tally) (tally : Tally) (accounts new : List Account)
    (result : Result X E) → left ≡ next ++ tally ∷ []
    → OnOk result (reverse new ≡ accounts_by now (tally ∷ []) ++ reverse accounts)
    → OnOk result (IsTaking now next new (accounts_by now left ++ reverse accounts))
took_last now left next tally accounts new (Ok x) is put = took_one now left next tally accounts new is put
took_last now left next tally accounts new (Err e) is put = tt

pub took_none : (now : ℕ) (left next : List Tally) (accounts : List Account) → left ≡ next ++ []
    → IsTaking now next accounts (accounts_by now left ++ reverse accounts)
took_none now left next accounts is =
    ap (λ l. accounts_by now l ++ reverse accounts) (sym (append-nil next) ∙ sym is)

pub took_all : (now : ℕ) (left : List Tally) (accounts whole : List Account) → length left ≡ 0
    → IsTaking now left accounts whole → reverse accounts ≡ whole
took_all now [] accounts whole none are = are
took_all now (x ∷ left) accounts whole none are = absurd (omega (arith, none))
