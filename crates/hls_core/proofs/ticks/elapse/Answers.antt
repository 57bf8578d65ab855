use Rattle.std.proofs.Common.{◌+◌, arith}
use Rattle.hls_core.proofs.Firsts.{none_sooner, none_due}
use Rattle.hls_core.proofs.Elapsing.{passed_stands, passed_any, leap_stands, turned_stands, count_stands, elapses}
use Rattle.hls_core.proofs.Elapsing.{known_may, known_stands, first_later, spent_none, release_stands, release_fits}
use Rattle.hls_core.proofs.Elapsing.{ticks_fit}
use Rattle.hls_core.proofs.Stretches.{passed_lasts, tree_stretch, stopped}
use Rattle.hls_core.proofs.ticks.elapse.Goals as goal

pub way_of-path-requires-clause-stands : goal.way_of-path-requires-clause-stands
way_of-path-requires-clause-stands g c =
    passed_stands _ (λ z. (goal.Scheduler-dyn g z).choice z.1) c.args.tree.now c.pass.new.self
    c.first_release-first.new.self c.args.stays.now c.args.journal.now c.args.most (known_stands _ (λ z.
    (goal.Scheduler-dyn g z).choice z.1) c.args.tree.now c.args.bursts.now c.first_release-first.new.self
    c.args.stays.now c.args.journal.now c.args.most c.first_release-first.ensures.same c.requires.stands)
    c.pass.ensures.tree c.pass.ensures.passes

pub up_to-free-requires-clause-ahead : goal.up_to-free-requires-clause-ahead
up_to-free-requires-clause-ahead g c =
    first_later _ (λ z. (goal.Scheduler-dyn g z).choice z.1) c.args.tree.now c.first_release-first.new.self
    c.args.stays.now c.args.journal.now c.args.most c.now-now.result c.first_release-first.result
    c.first_release-first.ensures.first c.now-now.ensures (known_stands _ (λ z. (goal.Scheduler-dyn g z).choice z.1)
    c.args.tree.now c.args.bursts.now c.first_release-first.new.self c.args.stays.now c.args.journal.now c.args.most
    c.first_release-first.ensures.same c.requires.stands)

pub standing-ticks-requires-clause-tree : goal.standing-ticks-requires-clause-tree
standing-ticks-requires-clause-tree g c =
    passed_any _ (λ z. (goal.Scheduler-dyn g z).choice z.1) c.args.tree.now c.pass.new.self
    c.first_release-first.new.self c.args.stays.now c.args.journal.now c.args.most (known_stands _ (λ z.
    (goal.Scheduler-dyn g z).choice z.1) c.args.tree.now c.args.bursts.now c.first_release-first.new.self
    c.args.stays.now c.args.journal.now c.args.most c.first_release-first.ensures.same c.requires.stands)
    c.pass.ensures.tree

pub standing-ticks-requires-clause-within : goal.standing-ticks-requires-clause-within
standing-ticks-requires-clause-within g c =
    let free = c.up_to-free.ensures.most in let within = c.requires.within in omega (arith, free, within)

pub standing-ticks-requires-clause-lasting : goal.standing-ticks-requires-clause-lasting
standing-ticks-requires-clause-lasting g c =
    passed_lasts _ (λ z. (goal.Scheduler-dyn g z).choice z.1) c.args.tree.now c.pass.new.self
    c.first_release-first.new.self c.args.stays.now c.args.journal.now c.args.most c.current-thread.result
    c.pass.ensures.tree c.pass.ensures.passes
    c.current-thread.ensures.none c.current-thread.ensures.some (known_stands _ (λ z. (goal.Scheduler-dyn g z).choice
    z.1) c.args.tree.now c.args.bursts.now c.first_release-first.new.self c.args.stays.now c.args.journal.now
    c.args.most c.first_release-first.ensures.same c.requires.stands)

pub advance-requires-clause-stands : goal.advance-requires-clause-stands
advance-requires-clause-stands g c =
    leap_stands _ (λ z. (goal.Scheduler-dyn g z).choice z.1) c.args.tree.now c.pass.new.self
    c.first_release-first.new.self c.args.stays.now c.args.journal.now c.args.most c.standing-ticks.result
    (known_stands _ (λ z. (goal.Scheduler-dyn g z).choice z.1) c.args.tree.now c.args.bursts.now
    c.first_release-first.new.self c.args.stays.now c.args.journal.now c.args.most c.first_release-first.ensures.same
    c.requires.stands) c.pass.ensures.tree c.pass.ensures.horizon (let free = c.up_to-free.ensures.most in let ticks
    = c.standing-ticks.ensures.most in omega (arith, free, ticks))

pub serve-requires : goal.serve-requires
serve-requires g c =
    turned_stands _ (λ z. (goal.Scheduler-dyn g z).choice z.1) c.args.tree.now c.pass.new.self c.advance.new.tree
    c.first_release-first.new.self c.args.stays.now c.args.journal.now c.args.most c.standing-ticks.result
    c.current-thread.result (record {
      tree = c.pass.ensures.tree;
      passes = c.pass.ensures.passes;
      flags = c.pass.ensures.flags;
      none = c.current-thread.ensures.none;
      some = c.current-thread.ensures.some;
      law = c.standing-ticks.ensures.law;
      burst = c.standing-ticks.ensures.burst;
      ahead = λ h tree k release next.
          (let lo = none_sooner c.first_release-first.new.self.begun.items c.first_release-first.result
          (c.now-now.result + c.standing-ticks.result)
          c.first_release-first.ensures.first
          (λ tick e. (let up = c.up_to-free.ensures.ahead tick e in omega (
            arith,
            up,
            c.standing-ticks.ensures.most,
          ))) k release next in
          let here = c.now-now.ensures h tree in omega (arith, here, lo));
      elapsed = c.advance.ensures.elapsed;
      turns = c.advance.ensures.ready;
    }) (known_stands _ (λ z. (goal.Scheduler-dyn g z).choice z.1) c.args.tree.now c.args.bursts.now
    c.first_release-first.new.self c.args.stays.now c.args.journal.now c.args.most c.first_release-first.ensures.same
    c.requires.stands)

pub tick-requires : goal.tick-requires
tick-requires g c =
    count_stands _ (λ z. (goal.Scheduler-dyn g z).choice z.1) c.args.tree.now c.pass.new.self c.advance.new.tree
    c.first_release-first.new.self c.args.stays.now c.args.journal.now c.args.most c.standing-ticks.result
    c.current-thread.result (record {
      tree = c.pass.ensures.tree;
      passes = c.pass.ensures.passes;
      flags = c.pass.ensures.flags;
      none = c.current-thread.ensures.none;
      some = c.current-thread.ensures.some;
      law = c.standing-ticks.ensures.law;
      burst = c.standing-ticks.ensures.burst;
      ahead = λ h tree k release next.
          (let lo = none_sooner c.first_release-first.new.self.begun.items c.first_release-first.result
          (c.now-now.result + c.standing-ticks.result)
          c.first_release-first.ensures.first
          (λ tick e. (let up = c.up_to-free.ensures.ahead tick e in omega (
            arith,
            up,
            c.standing-ticks.ensures.most,
          ))) k release next in
          let here = c.now-now.ensures h tree in omega (arith, here, lo));
      elapsed = c.advance.ensures.elapsed;
      turns = c.advance.ensures.ready;
    }) c.serve.new.tree c.serve.new.bursts (record {
      tree = c.serve.ensures.tree;
      ready = c.serve.ensures.flags;
      begun = c.serve.ensures.begun;
    }) (let free = c.up_to-free.ensures.most in let ticks = c.standing-ticks.ensures.most in omega (
      arith,
      free,
      ticks,
    )) (known_stands _ (λ z. (goal.Scheduler-dyn g z).choice z.1) c.args.tree.now c.args.bursts.now
    c.first_release-first.new.self c.args.stays.now c.args.journal.now c.args.most c.first_release-first.ensures.same
    c.requires.stands)

pub overflow_add-end : goal.overflow_add-end
overflow_add-end g c =
    let fit = ticks_fit _ (λ z. (goal.Scheduler-dyn g z).choice z.1) c.args.tree.now c.first_release-first.new.self
    c.args.stays.now c.args.journal.now c.args.most c.standing-ticks.result c.now-now.result (let free =
    c.up_to-free.ensures.most in let ticks = c.standing-ticks.ensures.most in omega (arith, free, ticks))
    c.now-now.ensures (known_stands _ (λ z. (goal.Scheduler-dyn g z).choice z.1) c.args.tree.now c.args.bursts.now
    c.first_release-first.new.self c.args.stays.now c.args.journal.now c.args.most c.first_release-first.ensures.same
    c.requires.stands) in
    omega (arith, fit)

pub release-requires-clause-stands : goal.release-requires-clause-stands
release-requires-clause-stands g c =
    release_stands _ (λ z. (goal.Scheduler-dyn g z).choice z.1) c.args.tree.now c.pass.new.self c.advance.new.tree
    c.first_release-first.new.self c.args.stays.now c.args.journal.now c.args.most c.standing-ticks.result
    c.current-thread.result (record {
      tree = c.pass.ensures.tree;
      passes = c.pass.ensures.passes;
      flags = c.pass.ensures.flags;
      none = c.current-thread.ensures.none;
      some = c.current-thread.ensures.some;
      law = c.standing-ticks.ensures.law;
      burst = c.standing-ticks.ensures.burst;
      ahead = λ h tree k release next.
          (let lo = none_sooner c.first_release-first.new.self.begun.items c.first_release-first.result
          (c.now-now.result + c.standing-ticks.result)
          c.first_release-first.ensures.first
          (λ tick e. (let up = c.up_to-free.ensures.ahead tick e in omega (
            arith,
            up,
            c.standing-ticks.ensures.most,
          ))) k release next in
          let here = c.now-now.ensures h tree in omega (arith, here, lo));
      elapsed = c.advance.ensures.elapsed;
      turns = c.advance.ensures.ready;
    }) c.serve.new.tree c.serve.new.bursts (record {
      tree = c.serve.ensures.tree;
      ready = c.serve.ensures.flags;
      begun = c.serve.ensures.begun;
    }) c.tick.new.self c.tick.ensures (let free = c.up_to-free.ensures.most in let ticks =
    c.standing-ticks.ensures.most in omega (arith, free, ticks)) (known_stands _ (λ z. (goal.Scheduler-dyn g
    z).choice z.1) c.args.tree.now c.args.bursts.now c.first_release-first.new.self c.args.stays.now
    c.args.journal.now c.args.most c.first_release-first.ensures.same c.requires.stands)

pub release-requires-clause-none : goal.release-requires-clause-none
release-requires-clause-none g c =
    spent_none _ (λ z. (goal.Scheduler-dyn g z).choice z.1) c.args.tree.now c.pass.new.self c.advance.new.tree
    c.first_release-first.new.self c.args.stays.now c.args.journal.now c.args.most c.standing-ticks.result
    c.current-thread.result (record {
      tree = c.pass.ensures.tree;
      passes = c.pass.ensures.passes;
      flags = c.pass.ensures.flags;
      none = c.current-thread.ensures.none;
      some = c.current-thread.ensures.some;
      law = c.standing-ticks.ensures.law;
      burst = c.standing-ticks.ensures.burst;
      ahead = λ h tree k release next.
          (let lo = none_sooner c.first_release-first.new.self.begun.items c.first_release-first.result
          (c.now-now.result + c.standing-ticks.result)
          c.first_release-first.ensures.first
          (λ tick e. (let up = c.up_to-free.ensures.ahead tick e in omega (
            arith,
            up,
            c.standing-ticks.ensures.most,
          ))) k release next in
          let here = c.now-now.ensures h tree in omega (arith, here, lo));
      elapsed = c.advance.ensures.elapsed;
      turns = c.advance.ensures.ready;
    }) c.serve.new.tree c.serve.new.bursts (record {
      tree = c.serve.ensures.tree;
      ready = c.serve.ensures.flags;
      begun = c.serve.ensures.begun;
    }) (c.now-now.result + c.standing-ticks.result)
    (none_due c.first_release-first.new.self.begun.items c.first_release-first.result (c.now-now.result +
    c.standing-ticks.result)
    c.first_release-first.ensures.first
    (λ tick e. (let up = c.up_to-free.ensures.ahead tick e in
    let ticks = c.standing-ticks.ensures.most in omega (arith, up, ticks))))

pub release-requires-clause-fits : goal.release-requires-clause-fits
release-requires-clause-fits g c =
    release_fits _ (λ z. (goal.Scheduler-dyn g z).choice z.1) c.args.tree.now c.pass.new.self c.advance.new.tree
    c.first_release-first.new.self c.args.stays.now c.args.journal.now c.args.most c.standing-ticks.result
    c.current-thread.result (record {
      tree = c.pass.ensures.tree;
      passes = c.pass.ensures.passes;
      flags = c.pass.ensures.flags;
      none = c.current-thread.ensures.none;
      some = c.current-thread.ensures.some;
      law = c.standing-ticks.ensures.law;
      burst = c.standing-ticks.ensures.burst;
      ahead = λ h tree k release next.
          (let lo = none_sooner c.first_release-first.new.self.begun.items c.first_release-first.result
          (c.now-now.result + c.standing-ticks.result)
          c.first_release-first.ensures.first
          (λ tick e. (let up = c.up_to-free.ensures.ahead tick e in omega (
            arith,
            up,
            c.standing-ticks.ensures.most,
          ))) k release next in
          let here = c.now-now.ensures h tree in omega (arith, here, lo));
      elapsed = c.advance.ensures.elapsed;
      turns = c.advance.ensures.ready;
    }) c.serve.new.tree c.serve.new.bursts (record {
      tree = c.serve.ensures.tree;
      ready = c.serve.ensures.flags;
      begun = c.serve.ensures.begun;
    }) c.now-now.result (let free = c.up_to-free.ensures.most in let ticks = c.standing-ticks.ensures.most in omega
    (arith, free, ticks)) c.now-now.ensures (known_stands _ (λ z. (goal.Scheduler-dyn g z).choice z.1)
    c.args.tree.now c.args.bursts.now c.first_release-first.new.self c.args.stays.now c.args.journal.now c.args.most
    c.first_release-first.ensures.same c.requires.stands)

pub returns-clause-elapses : goal.returns-clause-elapses
returns-clause-elapses g c = λ h may.
    elapses _ (λ z. (goal.Scheduler-dyn g z).choice z.1) c.args.tree.now c.pass.new.self c.advance.new.tree
    c.first_release-first.new.self c.args.stays.now c.args.journal.now c.args.most c.standing-ticks.result
    c.current-thread.result (record {
      tree = c.pass.ensures.tree;
      passes = c.pass.ensures.passes;
      flags = c.pass.ensures.flags;
      none = c.current-thread.ensures.none;
      some = c.current-thread.ensures.some;
      law = c.standing-ticks.ensures.law;
      burst = c.standing-ticks.ensures.burst;
      ahead = λ h tree k release next.
          (let lo = none_sooner c.first_release-first.new.self.begun.items c.first_release-first.result
          (c.now-now.result + c.standing-ticks.result)
          c.first_release-first.ensures.first
          (λ tick e. (let up = c.up_to-free.ensures.ahead tick e in omega (
            arith,
            up,
            c.standing-ticks.ensures.most,
          ))) k release next in
          let here = c.now-now.ensures h tree in omega (arith, here, lo));
      elapsed = c.advance.ensures.elapsed;
      turns = c.advance.ensures.ready;
    }) c.serve.new.tree c.serve.new.bursts (record {
      tree = c.serve.ensures.tree;
      ready = c.serve.ensures.flags;
      begun = c.serve.ensures.begun;
    }) c.tick.new.self c.tick.ensures
    c.release.new.tree c.release.new.bursts c.release.new.stays c.now-now.result c.now-now.ensures (record {
      tree = c.release.ensures.tree;
      flags = c.release.ensures.flags;
      begun = c.release.ensures.begun;
    }) c.release.ensures.stays c.way_of-path.result (let free = c.up_to-free.ensures.most in let ticks =
    c.standing-ticks.ensures.most in omega (arith, free, ticks)) c.way_of-path.ensures h (known_may _ (λ z.
    (goal.Scheduler-dyn g z).choice z.1) c.args.tree.now c.args.bursts.now c.first_release-first.new.self
    c.args.stays.now c.args.journal.now c.args.most c.first_release-first.ensures.same h may)

pub returns-clause-stretch : goal.returns-clause-stretch
returns-clause-stretch g c = λ h may.
    tree_stretch _ (λ z. (goal.Scheduler-dyn g z).choice z.1) c.args.tree.now c.pass.new.self
    c.first_release-first.new.self c.args.stays.now c.args.journal.now c.args.most c.current-thread.result
    c.pass.ensures.tree c.pass.ensures.passes
    c.current-thread.ensures.none c.current-thread.ensures.some c.standing-ticks.result c.now-now.result
    c.requires.within c.now-now.ensures c.standing-ticks.ensures.least c.standing-ticks.ensures.burst
    (none_sooner c.first_release-first.new.self.begun.items c.first_release-first.result (c.now-now.result +
    c.standing-ticks.result)
    c.first_release-first.ensures.first
    (λ tick e. (let up = c.up_to-free.ensures.ahead tick e in
    let ticks = c.standing-ticks.ensures.most in omega (arith, up, ticks))))
    (stopped c.first_release-first.new.self.begun.items c.first_release-first.result c.now-now.result
    c.up_to-free.result c.args.most
    c.standing-ticks.result c.first_release-first.ensures.first c.standing-ticks.ensures.attained
    c.standing-ticks.ensures.most c.up_to-free.ensures.attained) h (known_may _ (λ z. (goal.Scheduler-dyn g z).choice
    z.1) c.args.tree.now c.args.bursts.now c.first_release-first.new.self c.args.stays.now c.args.journal.now
    c.args.most c.first_release-first.ensures.same h may)
