-- Dues that come one after the other.
use Rattle.std.proofs.Common.{◌≡◌, ℕ, zero, suc, ◌+◌, ◌<◌, ◌≤◌, List, [], ◌∷◌, ◌++◌, Bool, true, false, refl}
use Rattle.std.proofs.Common.{ap, sym, ◌∙◌, subst, map, length, drop, get_or, append_assoc, arith}
use Rattle.std.specs.Prelude.{cond, flat_map}
use Rattle.std.specs.List.{AllByRecursion}
use Rattle.std.proofs.Math.ListN.{drop_of_length-le}
use Rattle.std.proofs.lemmas.List.{map-append, append-nil}
use Rattle.hls_text.specs.Lines.{Text}
use Rattle.hls_chron.specs.declared.plain.Config.{Config}
use Rattle.hls_guarantee.specs.declared.Guarantee.{Guarantee}
use Rattle.hls_scenario.specs.declared.scenario.Perch.{Perch}
use Rattle.hls_report_text.specs.declared.report.Seated.{Seated}
use Rattle.hls_legal.specs.Dues.{Due, IsSettled, AreSettled}
use Rattle.hls_audit_clauses.specs.declared.member.Member.{Member}
use Rattle.hls_audit_clauses.specs.Names.{member_of, sort_of}
use Rattle.hls_audit_clauses.specs.Dues.{config_in, due_at, dues_from, is_at, dues_on}
use Rattle.hls_audit_clauses.specs.Dues as clause
use Rattle.hls_audit.specs.declared.dues.Due as dues
use Rattle.hls_audit.proofs.Lists.{drop_here}
use Rattle.hls_audit.specs.Inside.Told.{told, due_under, dues_under}

-- these dues, and what is still to come, are the whole
abbrev pub AreSoFar : List dues.Due → (rest whole : List Due) → Type 0
AreSoFar items rest whole = map told items ++ rest ≡ whole

one_more : (items : List dues.Due) (due : dues.Due) (next : Due) (rest whole : List Due) → told due ≡ next
    → AreSoFar items (next ∷ rest) whole → AreSoFar (items ++ due ∷ []) rest whole
one_more items due next rest whole is are =
    ap (λ (front : List Due). front ++ rest) (map-append told items (due ∷ []))
    ∙ append_assoc (map told items) (told due ∷ []) rest
    ∙ ap (λ d. map told items ++ (d ∷ rest)) is
    ∙ are

-- ---- new seats

pub from-more : (tree : List Member) (name : Text) (perches : List Perch) (i : ℕ) (perch : Perch)
    (items : List dues.Due) (due : dues.Due) (whole : List Due) → i < length perches → perch ≡ get_or perches i perch
    → told due ≡ due_at tree name i perch → AreSoFar items (dues_from tree name i (drop i perches)) whole
    → AreSoFar (items ++ due ∷ []) (dues_from tree name (i + 1) (drop (i + 1) perches)) whole
from-more tree name perches i perch items due whole lt is due_is are =
    one_more items due (due_at tree name i perch) (dues_from tree name (i + 1) (drop (i + 1) perches)) whole due_is
    (subst (λ rest. AreSoFar items (dues_from tree name i rest) whole) (drop_here perches i perch lt is) are)

pub from-end : (tree : List Member) (name : Text) (perches : List Perch) (i : ℕ)
    (items : List dues.Due) (whole : List Due) → length perches ≤ i
    → AreSoFar items (dues_from tree name i (drop i perches)) whole → map told items ≡ whole
from-end tree name perches i items whole le are =
    sym (append-nil (map told items))
    ∙ subst (λ rest. AreSoFar items (dues_from tree name i rest) whole) (drop_of_length-le perches le) are

-- ---- seats on a scheduler that is moved

taken : (b : Bool) (x : Due) (xs : List Due) → b ≡ true → cond b (x ∷ xs) xs ≡ x ∷ xs
taken true x xs e = refl
taken false x xs e = absurd (cc)

left_out : (b : Bool) (x : Due) (xs : List Due) → b ≡ false → cond b (x ∷ xs) xs ≡ xs
left_out true x xs e = absurd (cc)
left_out false x xs e = refl

pub under-more : (config : Config) (moved : Text) (has : Guarantee) (name : Text) (perches : List Perch) (i : ℕ)
    (perch : Perch) (items : List dues.Due) (due : dues.Due) (whole : List Due) → i < length perches
    → perch ≡ get_or perches i perch → is_at moved perch.spot ≡ true → told due ≡ due_under config has name i perch
    → AreSoFar items (dues_under config moved has name i (drop i perches)) whole
    → AreSoFar (items ++ due ∷ []) (dues_under config moved has name (i + 1) (drop (i + 1) perches)) whole
under-more config moved has name perches i perch items due whole lt is sits due_is are =
    let rest = dues_under config moved has name (i + 1) (drop (i + 1) perches) in
    one_more items due (due_under config has name i perch) rest whole due_is
    (subst (λ found. AreSoFar items found whole)
    (taken (is_at moved perch.spot) (due_under config has name i perch) rest sits)
    (subst (λ found. AreSoFar items (dues_under config moved has name i found) whole)
    (drop_here perches i perch lt is) are))

pub under-past : (config : Config) (moved : Text) (has : Guarantee) (name : Text) (perches : List Perch) (i : ℕ)
    (perch : Perch) (items : List dues.Due) (whole : List Due) → i < length perches
    → perch ≡ get_or perches i perch → is_at moved perch.spot ≡ false
    → AreSoFar items (dues_under config moved has name i (drop i perches)) whole
    → AreSoFar items (dues_under config moved has name (i + 1) (drop (i + 1) perches)) whole
under-past config moved has name perches i perch items whole lt is other are =
    let rest = dues_under config moved has name (i + 1) (drop (i + 1) perches) in
    subst (λ found. AreSoFar items found whole)
    (left_out (is_at moved perch.spot) (due_under config has name i perch) rest other)
    (subst (λ found. AreSoFar items (dues_under config moved has name i found) whole)
    (drop_here perches i perch lt is) are)

pub under-end : (config : Config) (moved : Text) (has : Guarantee) (name : Text) (perches : List Perch) (i : ℕ)
    (items : List dues.Due) (whole : List Due) → length perches ≤ i
    → AreSoFar items (dues_under config moved has name i (drop i perches)) whole → map told items ≡ whole
under-end config moved has name perches i items whole le are =
    sym (append-nil (map told items))
    ∙ subst (λ rest. AreSoFar items (dues_under config moved has name i rest) whole) (drop_of_length-le perches le) are

under_same : (tree : List Member) (config : Config) (moved : Text) (has : Guarantee) (name : Text) (port : ℕ)
    (perches : List Perch) → config ≡ config_in (sort_of (member_of tree moved))
    → dues_under config moved has name port perches ≡ clause.dues_under tree moved has name port perches
under_same tree config moved has name port [] is = refl
under_same tree config moved has name port (perch ∷ perches) is =
    ap (λ set. cond (is_at moved perch.spot)
    (due_under set has name port perch ∷ dues_under config moved has name (port + 1) perches)
    (dues_under config moved has name (port + 1) perches)) is
    ∙ ap (λ rest. cond (is_at moved perch.spot) (clause.due_under tree moved has name port perch ∷ rest) rest)
    (under_same tree config moved has name (port + 1) perches is)

-- the seats of these members
abbrev pub on_members : List Member → (moved : Text) → (has : Guarantee) → List Member → List Due
on_members tree moved has members =
    flat_map (λ (m : Member). clause.dues_under tree moved has m.name 0 m.perches) members

pub on-more : (tree : List Member) (config : Config) (moved : Text) (has : Guarantee) (members : List Member) (i : ℕ)
    (m : Member) (items new : List dues.Due) (whole : List Due) → i < length members → m ≡ get_or members i m
    → config ≡ config_in (sort_of (member_of tree moved))
    → map told new ≡ map told items ++ dues_under config moved has m.name 0 m.perches
    → AreSoFar items (on_members tree moved has (drop i members)) whole
    → AreSoFar new (on_members tree moved has (drop (i + 1) members)) whole
on-more tree config moved has members i m items new whole lt is set added are =
    let rest = on_members tree moved has (drop (i + 1) members) in
    let here = clause.dues_under tree moved has m.name 0 m.perches in
    let fact : AreSoFar items (here ++ rest) whole =
    subst (λ found. AreSoFar items (on_members tree moved has found) whole) (drop_here members i m lt is) are in
    ap (λ front. front ++ rest)
    (added ∙ ap (λ more. map told items ++ more) (under_same tree config moved has m.name 0 m.perches set))
    ∙ append_assoc (map told items) here rest
    ∙ fact

pub on-end : (tree : List Member) (moved : Text) (has : Guarantee) (members : List Member) (i : ℕ)
    (items : List dues.Due) (whole : List Due) → length members ≤ i
    → AreSoFar items (on_members tree moved has (drop i members)) whole → map told items ≡ whole
on-end tree moved has members i items whole le are =
    sym (append-nil (map told items))
    ∙ subst (λ rest. AreSoFar items (on_members tree moved has rest) whole) (drop_of_length-le members le) are

-- ---- seats that settle them

pub all_at : {X : Type 0} (P : X → Type 0) (xs : List X) (i : ℕ) (x : X) → i < length xs → x ≡ get_or xs i x
    → AllByRecursion P xs → P x
all_at P [] i x lt is are = absurd (omega arith)
all_at P (y ∷ xs) zero x lt is are = subst P (sym is) are.0
all_at P (y ∷ xs) (suc i) x lt is are = all_at P xs i x (omega arith) is are.1

-- from these dues and seats on
abbrev pub Settles : (depth : ℕ) → List dues.Due → List Seated → Type 0
Settles depth due seats = AreSettled depth (map told due) seats

-- those before place i are settled
pub record AreUpTo (depth : ℕ) (due : List dues.Due) (seats : List Seated) (i : ℕ) : Type 0 where
  pub there : Settles depth due seats → Settles depth (drop i due) (drop i seats)
  pub back : Settles depth (drop i due) (drop i seats) → Settles depth due seats

pub settled-first : (depth : ℕ) (due : List dues.Due) (seats : List Seated) → AreUpTo depth due seats 0
settled-first depth due seats = record { there = λ are. are; back = λ are. are }

settled_split : (depth : ℕ) (due : List dues.Due) (seats : List Seated) (i : ℕ) (d : dues.Due) (s : Seated)
    → i < length due → i < length seats → d ≡ get_or due i d → s ≡ get_or seats i s
    → Settles depth (drop i due) (drop i seats)
    ≡ (IsSettled depth (told d) s × Settles depth (drop (i + 1) due) (drop (i + 1) seats))
settled_split depth due seats i d s lt within d_is s_is =
    ap (λ ds. Settles depth ds (drop i seats)) (drop_here due i d lt d_is)
    ∙ ap (λ ss. Settles depth (d ∷ drop (i + 1) due) ss) (drop_here seats i s within s_is)

pub settled-more : (depth : ℕ) (due : List dues.Due) (seats : List Seated) (i : ℕ) (d : dues.Due) (s : Seated)
    → i < length due → i < length seats → d ≡ get_or due i d → s ≡ get_or seats i s
    → IsSettled depth (told d) s → AreUpTo depth due seats i → AreUpTo depth due seats (i + 1)
settled-more depth due seats i d s lt within d_is s_is holds are =
    let split = settled_split depth due seats i d s lt within d_is s_is in
    record {
      there = λ whole. (subst (λ (T : Type 0). T) split (are.there whole)).1;
      back = λ rest. are.back (subst (λ (T : Type 0). T) (sym split) (holds, rest));
    }

pub settled-no : (depth : ℕ) (due : List dues.Due) (seats : List Seated) (i : ℕ) (d : dues.Due) (s : Seated)
    → i < length due → i < length seats → d ≡ get_or due i d → s ≡ get_or seats i s
    → (IsSettled depth (told d) s → ⊥) → AreUpTo depth due seats i → Settles depth due seats → ⊥
settled-no depth due seats i d s lt within d_is s_is fails are whole =
    fails (subst (λ (T : Type 0). T) (settled_split depth due seats i d s lt within d_is s_is) (are.there whole)).0

pub settled-end : (depth : ℕ) (due : List dues.Due) (seats : List Seated) (i : ℕ)
    → length due ≤ i → length seats ≤ i → AreUpTo depth due seats i → Settles depth due seats
settled-end depth due seats i le within are =
    are.back (subst (λ ds. Settles depth ds (drop i seats)) (sym (drop_of_length-le due le))
    (subst (λ ss. Settles depth [] ss) (sym (drop_of_length-le seats within)) tt))

pub settled-lengths : (depth : ℕ) (due : List dues.Due) (seats : List Seated) → Settles depth due seats
    → length due ≡ length seats
settled-lengths depth [] [] are = refl
settled-lengths depth [] (s ∷ seats) are = absurd are
settled-lengths depth (d ∷ due) [] are = absurd are
settled-lengths depth (d ∷ due) (s ∷ seats) are = ap (λ n. suc n) (settled-lengths depth due seats are.1)

pub all_map : {X Y : Type 0} (P : Y → Type 0) (f : X → Y) (xs : List X) (i : ℕ) (x : X) → i < length xs
    → x ≡ get_or xs i x → AllByRecursion P (map f xs) → P (f x)
all_map P f [] i x lt is are = absurd (omega arith)
all_map P f (y ∷ xs) zero x lt is are = subst (λ z. P (f z)) (sym is) are.0
all_map P f (y ∷ xs) (suc i) x lt is are = all_map P f xs i x (omega arith) is are.1
