-- The first tick at which one of all stays fails, from the first tick of each.
use Rattle.std.proofs.Common.{◌≡◌, ℕ, ◌+◌, ◌<◌, ◌≤◌, inl, inr, List, length, get_or, map, filter, refl, sym, ap}
use Rattle.std.proofs.Common.{◌∙◌, subst, arith, true}
use Rattle.std.specs.Prelude.{Option, Some, None, slice_get, option_map}
use Rattle.std.proofs.lemmas.Bool.{cases_eq, lt-ltb}
use Rattle.std.proofs.lemmas.Option.{slice_get_read, slice_get_within, get_or_from_slice_get}
use Rattle.hls_guarantee.specs.Limits.{IsValid}
use Rattle.hls_report_text.specs.Content.{Content}
use Rattle.hls_report_text.specs.WellFormed.{IsContent}
use Rattle.hls_legal.specs.declared.stay.Stay.{Stay}
use Rattle.hls_legal.specs.Stays.{stays}
use Rattle.hls_legal.specs.Accounts.{end_by, end_of}
use Rattle.hls_report_text.specs.declared.report.Answered.{Answered}
use Rattle.hls_audit_stays.specs.declared.found.FoundStay.{FoundStay}
use Rattle.hls_audit_stays.specs.Found.{stay_by, is_later, lasts}
use Rattle.hls_audit_stays.proofs.Lists.{IsKept, kept_of, kept_at, get_map}
use Rattle.hls_audit_clauses.specs.Clauses.{IsStarved, IsOverCap}
use Rattle.hls_audit_watch.specs.First.{FirstAt}
use Rattle.hls_audit_threads.specs.Inside.Least.{sooner_of}
use Rattle.hls_audit_threads.specs.Inside.Sites.{Starves, Exceeds}
use Rattle.hls_audit_threads.proofs.Formed.{stays_valid, stay_ends}
use Rattle.hls_audit_threads.proofs.Least.{sooner_first}

-- one of the first so many is such
pub record HasEarly {A : Type 0} (such : A → Type 0) (all : List A) (i : ℕ) : Type 0 where
  pub one : A
  pub number : ℕ
  pub before : number < i
  pub listed : slice_get all number ≡ Some one
  pub is : such one

pub early_none : {A : Type 0} (such : ℕ → A → Type 0) (all : List A) (t : ℕ) → ¬ HasEarly (such t) all 0
early_none such all t has = absurd (let lt = has.before in omega (arith, lt))

pub early_more : {A : Type 0} (such : ℕ → A → Type 0) (all : List A) (i : ℕ) (here : A) (first other more : Option ℕ)
    → i < length all → here ≡ get_or all i here → more ≡ sooner_of first other
    → FirstAt (λ t. HasEarly (such t) all i) first → FirstAt (λ t. such t here) other
    → FirstAt (λ t. HasEarly (such t) all (i + 1)) more
early_more such all i here first other more lt e made old new =
    subst (FirstAt (λ t. HasEarly (such t) all (i + 1))) (sym made)
    (sooner_first (λ t. HasEarly (such t) all i) (λ t. such t here) (λ t. HasEarly (such t) all (i + 1)) first other
    (record {
      left = λ t has. record {
        one = has.one;
        number = has.number;
        before = let less = has.before in omega (arith, less);
        listed = has.listed;
        is = has.is;
      };
      right = λ t is. record {
        one = here;
        number = i;
        before = omega arith;
        listed = slice_get_read all (length all) i here refl lt e;
        is = is;
      };
      either = λ t has. elim (cases_eq has.number i) [
        | inl same ↦
            let at : slice_get all i ≡ Some has.one =
            subst (λ n. slice_get all n ≡ Some has.one) same has.listed in
            let one : here ≡ has.one = e ∙ get_or_from_slice_get all i has.one here at in
            inr (subst (such t) (sym one) has.is)
        | inr ne ↦
            let less = has.before in
            inl (record {
              one = has.one;
              number = has.number;
              before = omega (arith, less, ne);
              listed = has.listed;
              is = has.is;
            })
      ];
    })
    old new)

pub first_same : (P Q : ℕ → Type 0) (first : Option ℕ) → ((t : ℕ) → P t → Q t) → ((t : ℕ) → Q t → P t)
    → FirstAt P first → FirstAt Q first
first_same P Q None to back never = λ t q. never t (back t q)
first_same P Q (Some t) to back first = record {
  here = to t first.here;
  earliest = λ k lt q. first.earliest k lt (back k q);
}

-- ---- stays that last

later_in : (since t horizon : ℕ) (until : Option ℕ) → since ≤ t → t < end_by horizon until
    → is_later since until ≡ true
later_in since t horizon None le lt = refl
later_in since t horizon (Some end) le lt = lt-ltb since end (omega (arith, le, lt))

-- a stay of the list is one of all
lasting_told : (c : Content) (all : List Stay) (i : ℕ) (one : Stay) → all ≡ filter lasts (stays c.answered)
    → slice_get all i ≡ Some one → IsKept lasts (stays c.answered) one
lasting_told c all i one e there =
    kept_of lasts (stays c.answered) i one (ap (λ (l : List Stay). slice_get l i) (sym e) ∙ there)

-- and one of all that has a tick is in the list
told_lasting : (c : Content) (all : List Stay) (i t : ℕ) (one : Stay) → all ≡ filter lasts (stays c.answered)
    → slice_get (stays c.answered) i ≡ Some one → one.since ≤ t → t < end_of c one
    → (at : ℕ) × (slice_get all at ≡ Some one)
told_lasting c all i t one e there since until =
    let at = kept_at lasts (stays c.answered) i one there (later_in one.since t c.horizon one.until since until) in
    (at.0, ap (λ (l : List Stay). slice_get l at.0) e ∙ at.1)

-- ---- all stays

pub starved_first : (c : Content) (all : List Stay) (i : ℕ) (first : Option ℕ) → length all ≤ i
    → all ≡ filter lasts (stays c.answered) → FirstAt (λ t. HasEarly (Starves c t) all i) first
    → FirstAt (IsStarved c) first
starved_first c all i first end e =
    first_same (λ t. HasEarly (Starves c t) all i) (IsStarved c) first
    (λ t has.
    let told = lasting_told c all has.number has.one e has.listed in record {
      stay = has.one;
      now = record {
        number = told.at;
        listed = told.there;
        since = has.is.now.since;
        until = has.is.now.until;
      };
      ready = has.is.ready;
      from = has.is.from;
      window = has.is.window;
      short = has.is.short;
    })
    (λ t s.
    let listed = told_lasting c all s.now.number t s.stay e s.now.listed s.now.since s.now.until in
    let within = slice_get_within all listed.0 s.stay listed.1 in
    record {
      one = s.stay;
      number = listed.0;
      before = omega (arith, within, end);
      listed = listed.1;
      is = record {
        now = record { since = s.now.since; until = s.now.until };
        ready = s.ready;
        from = s.from;
        window = s.window;
        short = s.short;
      };
    })

pub over_first : (c : Content) (all : List Stay) (i : ℕ) (first : Option ℕ) → length all ≤ i
    → all ≡ filter lasts (stays c.answered) → FirstAt (λ t. HasEarly (Exceeds c t) all i) first
    → FirstAt (IsOverCap c) first
over_first c all i first end e =
    first_same (λ t. HasEarly (Exceeds c t) all i) (IsOverCap c) first
    (λ t has.
    let told = lasting_told c all has.number has.one e has.listed in record {
      stay = has.one;
      now = record {
        number = told.at;
        listed = told.there;
        since = has.is.now.since;
        until = has.is.now.until;
      };
      served = has.is.served;
      over = has.is.over;
    })
    (λ t s.
    let listed = told_lasting c all s.now.number t s.stay e s.now.listed s.now.since s.now.until in
    let within = slice_get_within all listed.0 s.stay listed.1 in
    record {
      one = s.stay;
      number = listed.0;
      before = omega (arith, within, end);
      listed = listed.1;
      is = record {
        now = record { since = s.now.since; until = s.now.until };
        served = s.served;
        over = s.over;
      };
    })

-- ---- one stay of the list

pub kept_valid : (c : Content) (all : List Stay) (i : ℕ) (here : Stay) → IsContent c
    → all ≡ filter lasts (stays c.answered) → slice_get all i ≡ Some here → IsValid here.kept
kept_valid c all i here formed e there =
    let told = lasting_told c all i here e there in
    subst (λ (stay : Stay). IsValid stay.kept)
    (get_or_from_slice_get (stays c.answered) told.at here here told.there)
    (stays_valid c (stays c.answered) formed refl told.at here
    (slice_get_within (stays c.answered) told.at here told.there))

pub ends_early : (c : Content) (all : List Stay) (i : ℕ) (here : Stay) → IsContent c
    → all ≡ filter lasts (stays c.answered) → slice_get all i ≡ Some here → end_of c here ≤ c.horizon
ends_early c all i here formed e there =
    let told = lasting_told c all i here e there in stay_ends c here told.at formed told.there

-- a stay as it was found
pub told_at : (answered : List Answered) (found : List FoundStay) (i : ℕ) (one : FoundStay) (stay : Stay)
    → i < length found → one ≡ get_or found i one → stay ≡ stay_by answered one
    → slice_get (map (stay_by answered) found) i ≡ Some stay
told_at answered found i one stay lt here is =
    get_map (stay_by answered) found i
    ∙ ap (option_map (stay_by answered)) (slice_get_read found (length found) i one refl lt here)
    ∙ ap Some (sym is)

-- ---- a stay without a tick

pub none_starves : (c : Content) (stay : Stay) (until : ℕ) → until ≡ end_of c stay → until ≤ stay.since
    → (t : ℕ) → ¬ Starves c t stay
none_starves c stay until e le t s =
    let since = s.now.since in
    let within = s.now.until in absurd (omega (arith, since, within, e, le))

pub none_exceeds : (c : Content) (stay : Stay) (until : ℕ) → until ≡ end_of c stay → until ≤ stay.since
    → (t : ℕ) → ¬ Exceeds c t stay
none_exceeds c stay until e le t s =
    let since = s.now.since in
    let within = s.now.until in absurd (omega (arith, since, within, e, le))
