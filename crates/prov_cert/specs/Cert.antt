-- A certificate, without where its lists lie in memory.
use Rattle.std.specs.Prelude.{ℕ, List}
use Rattle.prov_cert.specs.declared.cert.OwnRegion.{OwnRegion}
use Rattle.prov_cert.specs.declared.cert.CertSpan.{CertSpan}
use Rattle.prov_cert.specs.declared.cert.RegKind.{RegKind}
use Rattle.prov_cert.specs.declared.cert.StackPart.{StackPart}

pub record Entry : Type 0 where
  pub name : List ℕ
  pub node : ℕ
  pub arg_kinds : List RegKind

pub record Node : Type 0 where
  pub at : ℕ
  pub regs : List RegKind
  pub stack : List StackPart
  pub next : List ℕ
  pub done : List ℕ

pub record Plain : Type 0 where
  pub regions : List OwnRegion
  pub spans : List CertSpan
  pub entries : List Entry
  pub notify : List ℕ
  pub nodes : List Node
