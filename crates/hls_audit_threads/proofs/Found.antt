-- What is found of stays, one by one.
use Rattle.std.proofs.Common.{◌≡◌, ℕ, ◌+◌, ◌<◌, ◌≤◌, List, [], ◌∷◌, ◌++◌, length, map, filter, take, get_or}
use Rattle.std.proofs.Common.{refl, sym, ap, ◌∙◌, subst, arith, cond}
use Rattle.std.specs.Prelude.{Bool, true, false, Option, Some, None, nat_lt, slice_get}
use Rattle.std.proofs.lemmas.Option.{slice_get_within, get_or_from_slice_get}
use Rattle.std.proofs.lemmas.Bool.{cases_Bool, lt-ltb, le-ltb}
use Rattle.std.proofs.lemmas.List.{length-map, take_more, map-append}
use Rattle.std.proofs.Common.{inl, inr}
use Rattle.hls_report_text.specs.declared.report.Account.{Account}
use Rattle.hls_report_text.specs.Content.{Content}
use Rattle.hls_legal.specs.declared.stay.Stay.{Stay}
use Rattle.hls_legal.specs.Accounts.{end_by, end_of, account_of, accounts_of}
use Rattle.hls_legal.specs.Stays.{stays}
use Rattle.hls_audit_stays.specs.Found.{is_later, lasts}
use Rattle.hls_audit_stays.proofs.Lists.{filter_append, take_all}
use Rattle.hls_audit_threads.specs.declared.stay_findings.StayFindings.{StayFindings}
use Rattle.hls_audit_threads.specs.Inside.Meeting.{listed, AreMet}
use Rattle.hls_audit_threads.specs.Inside.StayFindings.{has_tick, account_if, Adds}
use Rattle.hls_audit_threads.specs.Inside.Sites.{Starves, Exceeds}
use Rattle.hls_audit_watch.specs.First.{FirstAt}
use Rattle.hls_audit_threads.proofs.EachStay.{HasEarly, early_none, early_more}
use Rattle.hls_audit_threads.proofs.MeetingLaws.{met_none}

-- what is found of the first so many
pub record IsFound (c : Content) (all : List Stay) (i : ℕ) (f : StayFindings) : Type 0 where
  pub starved : FirstAt (λ t. HasEarly (Starves c t) all i) f.starved
  pub over_cap : FirstAt (λ t. HasEarly (Exceeds c t) all i) f.over_cap
  pub accounts : AreMet c.accounts (map (account_of c) (filter (has_tick c) (take i all))) f.met

pub found_none : (c : Content) (all : List Stay) (f : StayFindings) → f.starved ≡ None → f.over_cap ≡ None
    → f.met ≡ Some 0 → IsFound c all 0 f
found_none c all f starved over met = record {
  starved = subst (FirstAt (λ t. HasEarly (Starves c t) all 0)) (sym starved) (early_none (Starves c) all);
  over_cap = subst (FirstAt (λ t. HasEarly (Exceeds c t) all 0)) (sym over) (early_none (Exceeds c) all);
  accounts = met_none c.accounts f.met met;
}

listed_one : (c : Content) (stay : Stay)
    → listed (account_if c stay) ≡ map (account_of c) (filter (has_tick c) (stay ∷ []))
listed_one c stay = elim (cases_Bool (has_tick c stay)) [
  | inl on ↦
      ap (λ (b : Bool). listed (cond b (Some (account_of c stay)) None)) on
      ∙ sym (ap (λ (b : Bool). map (account_of c) (cond b (stay ∷ []) [])) on)
  | inr off ↦
      ap (λ (b : Bool). listed (cond b (Some (account_of c stay)) None)) off
      ∙ sym (ap (λ (b : Bool). map (account_of c) (cond b (stay ∷ []) [])) off)
]

accounts_more : (c : Content) (all : List Stay) (i : ℕ) (stay : Stay) → i < length all → stay ≡ get_or all i stay
    → map (account_of c) (filter (has_tick c) (take (i + 1) all))
    ≡ map (account_of c) (filter (has_tick c) (take i all)) ++ listed (account_if c stay)
accounts_more c all i stay lt here =
    ap (λ (l : List Stay). map (account_of c) (filter (has_tick c) l))
    (take_more all i stay lt ∙ ap (λ (s : Stay). take i all ++ s ∷ []) (sym here))
    ∙ ap (map (account_of c)) (filter_append (has_tick c) (take i all) (stay ∷ []))
    ∙ map-append (account_of c) (filter (has_tick c) (take i all)) (filter (has_tick c) (stay ∷ []))
    ∙ ap (λ l. map (account_of c) (filter (has_tick c) (take i all)) ++ l) (sym (listed_one c stay))

pub found_more : (c : Content) (all : List Stay) (i : ℕ) (stay : Stay) (old new : StayFindings) → i < length all
    → stay ≡ get_or all i stay → Adds c stay old new → IsFound c all i old → IsFound c all (i + 1) new
found_more c all i stay old new lt here adds found = record {
  starved = early_more (Starves c) all i stay old.starved adds.lack new.starved lt here adds.starved found.starved
      adds.lacks;
  over_cap = early_more (Exceeds c) all i stay old.over_cap adds.excess new.over_cap lt here adds.over_cap
      found.over_cap adds.exceeds;
  accounts = subst (λ l. AreMet c.accounts l new.met) (sym (accounts_more c all i stay lt here))
      (adds.accounts (map (account_of c) (filter (has_tick c) (take i all))) found.accounts);
}

no_tick : (c : Content) (stay : Stay) (until : Option ℕ) → is_later stay.since until ≡ false
    → nat_lt stay.since (end_by c.horizon until) ≡ false
no_tick c stay None off = absurd (let wrong : true ≡ false = off in cc)
no_tick c stay (Some end) off = off

-- those that do not last have no tick
pub ticks_lasting : (c : Content) (all : List Stay) → filter (has_tick c) (filter lasts all) ≡ filter (has_tick c) all
ticks_lasting c [] = refl
ticks_lasting c (stay ∷ all) = elim (cases_Bool (lasts stay)) [
  | inl on ↦
      ap (λ (b : Bool). filter (has_tick c) (cond b (stay ∷ filter lasts all) (filter lasts all))) on
      ∙ ap (λ l. cond (has_tick c stay) (stay ∷ l) l) (ticks_lasting c all)
  | inr off ↦
      ap (λ (b : Bool). filter (has_tick c) (cond b (stay ∷ filter lasts all) (filter lasts all))) off
      ∙ ticks_lasting c all
      ∙ sym (ap (λ (b : Bool). cond b (stay ∷ filter (has_tick c) all) (filter (has_tick c) all))
      (no_tick c stay stay.until off))
]

pub found_accounts : (c : Content) (all : List Stay) (i : ℕ) (f : StayFindings) → length all ≤ i
    → all ≡ filter lasts (stays c.answered) → IsFound c all i f → AreMet c.accounts (accounts_of c) f.met
found_accounts c all i f end e found =
    subst (λ l. AreMet c.accounts l f.met)
    (ap (λ (l : List Stay). map (account_of c) (filter (has_tick c) l)) (take_all all i end ∙ e)
    ∙ ap (map (account_of c)) (ticks_lasting c (stays c.answered)))
    found.accounts

-- ---- stays as they are found

pub found_next : (c : Content) (all : List Stay) (i : ℕ) (stay : Stay) (old new : StayFindings)
    → slice_get all i ≡ Some stay → Adds c stay old new → IsFound c all i old → IsFound c all (i + 1) new
found_next c all i stay old new there adds found =
    found_more c all i stay old new (slice_get_within all i stay there)
    (sym (get_or_from_slice_get all i stay stay there)) adds found

pub told_length : {A B : Type 0} (f : A → B) (xs : List A) (i : ℕ) → length xs ≤ i → length (map f xs) ≤ i
told_length f xs i le = let long = length-map xs f in omega (arith, le, long)

-- ---- the account of one stay

pub if_none : (c : Content) (stay : Stay) (end : ℕ) → end ≡ end_of c stay → end ≤ stay.since → None ≡ account_if c stay
if_none c stay end is none =
    sym (ap (λ (x : Bool). cond x (Some (account_of c stay)) None)
    (le-ltb stay.since (end_of c stay) (omega (arith, is, none))))

pub if_some : (c : Content) (stay : Stay) (end : ℕ) (account : Account) → end ≡ end_of c stay → stay.since < end
    → account ≡ account_of c stay → Some account ≡ account_if c stay
if_some c stay end account is some told =
    ap Some told
    ∙ sym (ap (λ (x : Bool). cond x (Some (account_of c stay)) None)
    (lt-ltb stay.since (end_of c stay) (omega (arith, is, some))))
