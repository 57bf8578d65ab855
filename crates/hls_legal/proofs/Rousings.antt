-- The last command that rouses a thread, as commands come.
use Rattle.std.proofs.Common.{◌≡◌, ◌≢◌, ℕ, ◌<◌, ◌≤◌, List, [], ◌∷◌, ◌++◌, Bool, true, false, ◌&&◌}
use Rattle.std.proofs.Common.{cond, refl, sym, ap, ◌∙◌}
use Rattle.std.specs.Prelude.{Option, Some, None, find, reverse, nat_le}
use Rattle.std.specs.Option.{option_or}
use Rattle.std.specs.List.{AllByRecursion}
use Rattle.std.specs.Str.{bytes_eq}
use Rattle.std.proofs.lemmas.List.{reverse-append}
use Rattle.std.proofs.lemmas.List.Folds.{find-append}
use Rattle.std.proofs.lemmas.Slice.Eq.{bytes_eq-Decides}
use Rattle.std.proofs.lemmas.Bool.{le-leb, lt-leb}
use Rattle.hls_text.specs.Lines.{Text}
use Rattle.hls_scenario.specs.declared.scenario.Command.{Command}
use Rattle.hls_scenario.specs.declared.scenario.Command.TheVariants.{Load, Thread, End, Unload, Move, Wake, Block}
use Rattle.hls_report_text.specs.declared.report.Answered.{Answered}
use Rattle.hls_machine.specs.Hierarchy as legal
use Rattle.hls_legal.specs.Commands.{is_done, has_done, rouses, last_rousing}
use Rattle.hls_legal.specs.Ready.{lasts, is_awake}
use Rattle.hls_legal.proofs.Served.{unserved_agree}

-- the last command, of these, that rouses the thread of a name
abbrev pub rousing : (name : Text) → List Answered → Option Answered
rousing name answered = find (has_done (rouses name)) (reverse answered)

find-last : {X : Type 0} (test : X → Bool) (x : X) (xs : List X)
    → find test (reverse (x ∷ xs)) ≡ option_or (find test (reverse xs)) (find test (x ∷ []))
find-last test x xs =
    ap (find test) (reverse-append (x ∷ []) xs) ∙ find-append test (reverse xs) (x ∷ [])

pub find-snoc : {X : Type 0} (test : X → Bool) (xs : List X) (x : X)
    → find test (reverse (xs ++ x ∷ [])) ≡ cond (test x) (Some x) (find test (reverse xs))
find-snoc test xs x = ap (find test) (reverse-append xs (x ∷ []))

pub find-snoc_hit : {X : Type 0} (test : X → Bool) (xs : List X) (x : X) → test x ≡ true
    → find test (reverse (xs ++ x ∷ [])) ≡ Some x
find-snoc_hit test xs x e = find-snoc test xs x ∙ ap (λ b. cond b (Some x) (find test (reverse xs))) e

pub find-snoc_miss : {X : Type 0} (test : X → Bool) (xs : List X) (x : X) → test x ≡ false
    → find test (reverse (xs ++ x ∷ [])) ≡ find test (reverse xs)
find-snoc_miss test xs x e = find-snoc test xs x ∙ ap (λ b. cond b (Some x) (find test (reverse xs))) e

find_one-none : {X : Type 0} (test : X → Bool) (x : X) → test x ≡ false → find test (x ∷ []) ≡ None
find_one-none test x e = ap (λ b. cond b (Some x) None) e

find_one-same : {X : Type 0} (test other : X → Bool) (x : X) → test x ≡ other x
    → find test (x ∷ []) ≡ find other (x ∷ [])
find_one-same test other x e = ap (λ b. cond b (Some x) None) e

find_none : {X : Type 0} (test : X → Bool) (xs : List X) → AllByRecursion (λ x. test x ≡ false) xs
    → find test (reverse xs) ≡ None
find_none test [] none = refl
find_none test (x ∷ xs) none =
    find-last test x xs ∙ ap (λ l. option_or l (find test (x ∷ []))) (find_none test xs none.1)
    ∙ find_one-none test x none.0

find_same : {X : Type 0} (test other : X → Bool) (xs : List X) → AllByRecursion (λ x. test x ≡ other x) xs
    → find test (reverse xs) ≡ find other (reverse xs)
find_same test other [] same = refl
find_same test other (x ∷ xs) same =
    find-last test x xs ∙ ap (λ l. option_or l (find test (x ∷ []))) (find_same test other xs same.1)
    ∙ ap (option_or (find other (reverse xs))) (find_one-same test other x same.0)
    ∙ sym (find-last other x xs)

abbrev up_to : (t : ℕ) → (name : Text) → Answered → Bool
up_to t name a = nat_le a.tick t && has_done (rouses name) a

late_none : (t : ℕ) (name : Text) (left : List Answered) → AllByRecursion (λ (a : Answered). t < a.tick) left
    → AllByRecursion (λ a. up_to t name a ≡ false) left
late_none t name [] late = tt
late_none t name (a ∷ left) late =
    let off : nat_le a.tick t ≡ false = lt-leb a.tick t late.0 in
    (ap (λ b. b && has_done (rouses name) a) off, late_none t name left late.1)

early_same : (t : ℕ) (name : Text) (before : List Answered)
    → AllByRecursion (λ (a : Answered). a.tick ≤ t) before
    → AllByRecursion (λ a. up_to t name a ≡ has_done (rouses name) a) before
early_same t name [] early = tt
early_same t name (a ∷ before) early =
    let on : nat_le a.tick t ≡ true = le-leb a.tick t early.0 in
    (ap (λ b. b && has_done (rouses name) a) on, early_same t name before early.1)

-- at the time of a tick, before the commands of later ticks
pub rousing_at : (t : ℕ) (name : Text) (before left : List Answered)
    → AllByRecursion (λ (a : Answered). a.tick ≤ t) before
    → AllByRecursion (λ (a : Answered). t < a.tick) left
    → last_rousing name t (before ++ left) ≡ rousing name before
unfolding last_rousing
rousing_at t name before left early late =
    ap (find (up_to t name)) (reverse-append before left)
    ∙ find-append (up_to t name) (reverse left) (reverse before)
    ∙ ap (λ l. option_or l (find (up_to t name) (reverse before)))
    (find_none (up_to t name) left (late_none t name left late))
    ∙ find_same (up_to t name) (has_done (rouses name)) before (early_same t name before early)

-- ---- who is meant

abbrev pub name_in : Command → Text
name_in (Load name config perches) = name
name_in (Thread name perch) = name
name_in (End name) = name
name_in (Unload name) = name
name_in (Move name perch) = name
name_in (Wake name every burst) = name
name_in (Block name) = name

pub names_differ : (name other : Text) → other ≢ name → bytes_eq other name ≡ false
names_differ name other ne =
    elim (bytes_eq other name) as (λ b. (b ≡ true → other ≡ name) → b ≡ false)
    [ true ↦ λ f. absurd (ne (f refl)) | false ↦ λ f. refl ] (bytes_eq-Decides other name).0

pub names_same : (name other : Text) → other ≡ name → bytes_eq other name ≡ true
names_same name other e = (bytes_eq-Decides other name).1 e

rouses_other : (name : Text) (command : Command) → name_in command ≢ name → rouses name command ≡ false
rouses_other name (Load other config perches) ne = refl
rouses_other name (Thread other perch) ne = names_differ name other ne
rouses_other name (End other) ne = names_differ name other ne
rouses_other name (Unload other) ne = refl
rouses_other name (Move other perch) ne = refl
rouses_other name (Wake other every burst) ne = names_differ name other ne
rouses_other name (Block other) ne = names_differ name other ne

and_false : (a b : Bool) → b ≡ false → (a && b) ≡ false
and_false true b e = e
and_false false b e = refl

pub missed : (test : Command → Bool) (a : Answered) → test a.command ≡ false → has_done test a ≡ false
missed test a e = and_false (is_done a.answer) (test a.command) e

pub not_meant : (name : Text) (a : Answered) → name_in a.command ≢ name → has_done (rouses name) a ≡ false
not_meant name a ne = missed (rouses name) a (rouses_other name a.command ne)

-- ---- wakes

-- what stands of wakes and blocks after such a command
abbrev wake_in : (tick : ℕ) → Command → legal.Wake
wake_in tick (Wake name every None) = legal.Awake
wake_in tick (Wake name every (Some ticks)) = legal.Awake_for (record { ticks = ticks; every = every }) tick
wake_in tick _ = legal.Asleep

abbrev pub wake_from : Option Answered → legal.Wake
wake_from None = legal.Asleep
wake_from (Some a) = wake_in a.tick a.command

-- since when it matters who was served
abbrev pub wake_since : (now : ℕ) → legal.Wake → ℕ
wake_since now legal.Asleep = now
wake_since now legal.Awake = now
wake_since now (legal.Awake_for burst since) = since

lasts_same : (serves other : ℕ → Bool) (now tick : ℕ) (command : Command)
    → ((x : ℕ) → wake_since now (wake_in tick command) ≤ x → x < now → serves x ≡ other x)
    → legal.is_ready serves now (wake_in tick command) ≡ lasts other tick now command
lasts_same serves other now tick (Load name config perches) same = refl
lasts_same serves other now tick (Thread name perch) same = refl
lasts_same serves other now tick (End name) same = refl
lasts_same serves other now tick (Unload name) same = refl
lasts_same serves other now tick (Move name perch) same = refl
lasts_same serves other now tick (Wake name every None) same = refl
lasts_same serves other now tick (Wake name every (Some ticks)) same =
    unserved_agree serves other every ticks tick now same
lasts_same serves other now tick (Block name) same = refl

pub awake_same : (serves other : ℕ → Bool) (now : ℕ) (found : Option Answered)
    → ((x : ℕ) → wake_since now (wake_from found) ≤ x → x < now → serves x ≡ other x)
    → legal.is_ready serves now (wake_from found) ≡ is_awake other now found
awake_same serves other now None same = refl
awake_same serves other now (Some a) same = lasts_same serves other now a.tick a.command same
