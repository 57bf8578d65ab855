-- Blocks reach what they reached, and more.
use Rattle.std.proofs.Common.{false, arith}
use Rattle.hls_guarantee.specs.declared.Guarantee.{Guarantee}
use Rattle.hls_guarantee.specs.declared.Guarantee.TheVariants.{Resb, Resc}
use Rattle.hls_guarantee.specs.declared.rule.RuleName.TheVariants.{R3, R10}
use Rattle.hls_guarantee.specs.Conversions.{Leads}

pub longer-blocks : (g h : Guarantee) → Leads R3 g h → Leads R10 g h
longer-blocks (Resb hard x y) (Resc false x' y') leads = (leads.0, omega (arith, leads.0, leads.1))
longer-blocks _ _ leads = absurd leads
