use Rattle.std.proofs.Common.{◌≡◌, ℕ, ◌+◌, ◌-◌, ◌≤◌, arith}
use Rattle.hls_guarantee.proofs.Readings.{error-quotient, quotient-error}
use Rattle.hls_guarantee.proofs.conversion_laws.errors_are_quotients.Goals as goal

pub returns : goal.returns
returns c =
    let a = c.args in
    let rest : ℕ = a.y - a.x in
    let fits : a.x ≤ a.y = c.requires in
    let sum : a.y ≡ rest + a.x = omega arith in
    (error-quotient a.d a.m a.x a.y rest sum, quotient-error a.d a.m a.x a.y rest sum)
