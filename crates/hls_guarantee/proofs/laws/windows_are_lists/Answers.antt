use Rattle.hls_guarantee.proofs.Windows.{window-satisfies, satisfies-window, window-keeps_cap}
use Rattle.hls_guarantee.proofs.Windows.{keeps_cap-window}
use Rattle.hls_guarantee.proofs.laws.windows_are_lists.Goals as goal

pub returns-clause-satisfied : goal.returns-clause-satisfied
returns-clause-satisfied c = λ list served lo same. (
  satisfies-window c.args.g list served lo (record { same = same }),
  window-satisfies c.args.g list served lo (record { same = same }),
)

pub returns-clause-capped : goal.returns-clause-capped
returns-clause-capped c = λ list served lo same. (
  keeps_cap-window c.args.g list served lo (record { same = same }),
  window-keeps_cap c.args.g list served lo (record { same = same }),
)
