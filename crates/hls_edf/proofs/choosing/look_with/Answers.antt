use Rattle.std.proofs.Common.{rules, ◌≡◌, ℕ, Option, Some, IfSome, true, ◌∙◌, sym, ap, refl, subst}
use Rattle.hls_chron.specs.Ledger.{now_of}
use Rattle.hls_chron.specs.Parts.{all_parts}
use Rattle.hls_book.specs.declared.server.Server.{Server}
use Rattle.hls_book.specs.Servers.{replenished}
use Rattle.hls_edf.specs.Choice.{server_in, amid_in, choice_of}
use Rattle.hls_edf.proofs.Joined.{outlook_joined, deadline_joined}
use Rattle.hls_edf.proofs.choosing.look_with.Goals as goal

pub returns : goal.returns
returns c = λ mask is before.
    let state = c.args.state.now in
    let servers = c.args.servers.now in
    let chosen = subst (λ (at : Option ℕ). IfSome at (λ best. choice_of servers state.book state.mask ≡ Some best))
    c.in-Some.is (c.chosen_with.ensures mask is before.chosen) in
    let same : c.replenished-server.result ≡ replenished all_parts (server_in servers c.args.slot) true
    (now_of state.book) = search rules in
    let its : c.replenished-server.result.deadline ≡ (amid_in servers state.book state.mask c.args.slot).deadline =
    ap (λ (server : Server). server.deadline) same
    ∙ sym (deadline_joined servers state.book mask state.mask c.args.slot c.requires.within is) in
    outlook_joined servers state.book mask state.mask c.args.slot c.requires.within is c.args.before
    (Some c.in-Some.best) c.replenished-server.result.deadline c.sooner_of.result _ (sym chosen) its
    c.sooner_of.ensures (rw c.bit.ensures refl) before
