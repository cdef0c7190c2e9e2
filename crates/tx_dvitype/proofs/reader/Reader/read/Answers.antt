use Rattle.std.proofs.Common.{◌≡◌, ℕ, ◌<◌, List, get_or, Result, Ok, sym, ap, ◌∙◌, subst, arith}
use Rattle.std.proofs.lemmas.Result.{IfOk-weaker, MatchResult-weaker}
use Rattle.std.specs.Prelude.{IfErr, IfOk}
use Rattle.tx_dvitype.specs.declared.error.DviError.{DviError}
use Rattle.tx_dvitype.specs.declared.reader.ReadPage.{ReadPage}
use Rattle.tx_dvitype.specs.declared.reader.Reader.{Reader}
use Rattle.tx_dvitype.specs.Files.{IsCause, at_start, dvi_file, rest_read}
use Rattle.tx_dvitype.specs.Grammar.{IsDviFile, IsNoFile}
use Rattle.tx_dvitype.proofs.Bytes.{are-bytes}
use Rattle.tx_dvitype.proofs.Exactly.{complete, sound}
use Rattle.tx_dvitype.proofs.Furthest.{no-file}
use Rattle.tx_dvitype.proofs.Sound.{ok-of}
use Rattle.tx_dvitype.proofs.reader.Reader.read.Goals as goal

module _ (bytes : List ℕ) (small : (i : ℕ) → get_or bytes i 0 < 256) (r : Reader) (starts : r ≡ at_start) (result : Result (List ReadPage) DviError) where
  from-start : {pages : List ReadPage} → rest_read 0 r bytes ≡ Ok pages → dvi_file bytes ≡ Ok pages
  from-start e = ap (λ (s : Reader). rest_read 0 s bytes) (sym starts) ∙ e

  file : IfOk result (λ pages. rest_read 0 r bytes ≡ Ok pages) → IfOk result (λ pages. IsDviFile bytes pages)
  file read = IfOk-weaker result _ _ (λ pages e. sound bytes pages (are-bytes bytes small) (from-start e)) read

  only : IfOk result (λ pages. rest_read 0 r bytes ≡ Ok pages) → IfOk result (λ pages. (others : List ReadPage) → IsDviFile bytes others → pages ≡ others)
  only read = IfOk-weaker result _ _ (λ pages e others is. ok-of pages others (sym (from-start e) ∙ complete bytes others is)) read

  none : IfErr result (IsCause (rest_read 0 r bytes)) → IfErr result (λ e. IsNoFile bytes e)
  none refused =
      MatchResult-weaker result refused (λ pages nothing. nothing)
      (λ e is. no-file bytes e (are-bytes bytes small) (subst (λ (s : Reader). IsCause (rest_read 0 s bytes) e) starts is))

pub returns-clause-file : goal.returns-clause-file
returns-clause-file c = file c.args.bytes.now (λ i. omega (arith, c.type_inv.bytes i)) c.new-reader.result c.new-reader.ensures c.take_pages.result c.take_pages.ensures.read

pub returns-clause-only : goal.returns-clause-only
returns-clause-only c = only c.args.bytes.now (λ i. omega (arith, c.type_inv.bytes i)) c.new-reader.result c.new-reader.ensures c.take_pages.result c.take_pages.ensures.read

pub returns-clause-none : goal.returns-clause-none
returns-clause-none c = none c.args.bytes.now (λ i. omega (arith, c.type_inv.bytes i)) c.new-reader.result c.new-reader.ensures c.take_pages.result c.take_pages.ensures.refused
