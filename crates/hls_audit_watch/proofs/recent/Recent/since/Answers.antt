use Rattle.std.proofs.Common.{◌≡◌, ℕ, ◌+◌, ◌-◌, ◌≤◌, ◌<◌, ◌%◌, length, get_or, arith, ap, sym, subst, List, Bool, ◌∙◌}
use Rattle.std.proofs.lemmas.List.{get_or_default}
use Rattle.hls_chron.specs.Ticks.{count}
use Rattle.hls_guarantee.specs.Service.{schedule_of}
use Rattle.hls_audit_watch.specs.Inside.Lately.{Lately}
use Rattle.hls_audit_watch.specs.Inside.Counts.{AreCounts}
use Rattle.hls_audit_watch.proofs.Rings.{counts_since}
use Rattle.hls_audit_watch.proofs.recent.Recent.since.Goals as goal

-- what was read and the service from there on are all
read : (w k p total now at : ℕ) (before : List ℕ) (l : List Bool) (t : ℕ) → AreCounts w k p total before l →
    now ≡ get_or before at now → at ≡ t % w → t ≤ length l → length l < t + w →
    now + count (schedule_of l) t (length l - t) ≡ total
read w k p total now at before l t c is placed le near =
    let some = c.some in
    let room = c.room in
    let inside : at < length before = omega arith in
    let there : now ≡ get_or before (t % w) 0 =
    is ∙ (get_or_default before at now 0 inside ∙ ap (λ (n : ℕ). get_or before n 0) placed) in
    let sum = counts_since w k p total before l t c le near in
    omega arith

pub overflow_sub-result : goal.overflow_sub-result
overflow_sub-result c =
    let l : List Bool = c.self.inside.past.list in
    let same = ap (λ (r : Lately). length r.list) c.self.view_is in
    let width = ap (λ (r : Lately). r.period) c.self.view_is in
    let late : length l < c.args._start + c.self.inside.period = omega (arith, c.requires.late, width) in
    let placed : c.args.place ≡ c.args._start % c.self.inside.period =
    c.requires.place ∙ ap (λ (n : ℕ). c.args._start % n) (sym width) in
    let sum = read c.self.inside.period c.self.inside.pushed c.self.inside.place c.self.inside.total
    c.index.result.now c.args.place c.self.inside.before.items l c.args._start c.self.invariant c.index.ensures placed
    (omega (arith, c.requires.start)) late in
    omega arith

pub returns : goal.returns
returns c =
    let l : List Bool = c.self.inside.past.list in
    let same = ap (λ (r : Lately). length r.list) c.self.view_is in
    let width = ap (λ (r : Lately). r.period) c.self.view_is in
    let late : length l < c.args._start + c.self.inside.period = omega (arith, c.requires.late, width) in
    let placed : c.args.place ≡ c.args._start % c.self.inside.period =
    c.requires.place ∙ ap (λ (n : ℕ). c.args._start % n) (sym width) in
    let sum = read c.self.inside.period c.self.inside.pushed c.self.inside.place c.self.inside.total
    c.index.result.now c.args.place c.self.inside.before.items l c.args._start c.self.invariant c.index.ensures placed
    (omega (arith, c.requires.start)) late in
    let view = ap (λ (r : Lately). r.list) c.self.view_is in
    subst (λ (m : List Bool). c.self.inside.total - c.index.result.now ≡
    count (schedule_of m) c.args._start (length m - c.args._start)) view (omega arith)
