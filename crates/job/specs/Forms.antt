-- The code's pages in the words of the texts. Rests on the texts of reports.
use Rattle.std.specs.Prelude.{ℕ, List, Result, Ok, Err}
use Rattle.modulus.specs.declared.refusal.Refusal.{Refusal}
use Rattle.job.specs.Report.{refusal_lines, report_lines}
use Rattle.job.specs.declared.page.Figures.{Figures}

-- the text of figures
abbrev pub figures_text : Figures → List ℕ
figures_text g = report_lines g.standing g.reduced.items g.powers.items g.multiplications g.refusal

-- the text of a page: of figures, or of a refusal alone
abbrev pub page_text : Result Figures Refusal → List ℕ
page_text (Ok g) = figures_text g
page_text (Err f) = refusal_lines f
