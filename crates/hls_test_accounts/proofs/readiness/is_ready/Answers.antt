use Rattle.std.proofs.Common.{sym, ap, ◌∙◌}
use Rattle.std.specs.Prelude.{option_copied}
use Rattle.hls_test_accounts.proofs.EarlyLaws.{last_early}
use Rattle.hls_test_accounts.proofs.readiness.is_ready.Goals as goal

pub lasts-requires : goal.lasts-requires
lasts-requires c = record {
  order = last_early c.args.name.now c.args.tick c.items.result.now c.in-Some.a.now
      (sym c.last_rousing.ensures ∙ ap option_copied c.in-Some.is);
}
