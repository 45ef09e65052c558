use Rattle.std.proofs.Common.{◌≡◌, ℕ, false, subst, MatchOption}
use Rattle.lnet_numbers.specs.Words.{bit}
use Rattle.lnet_numbers.specs.Least.{IsLeast}
use Rattle.lnet_numbers.proofs.Towers.{IsLeast-first, IsLeast-under, IsLeast-found, clear-first, clear-under, has-under}
use Rattle.lnet_numbers.proofs.levels.Levels.least.Goals as goal

pub returns-in_err-region : goal.returns-in_err-region
returns-in_err-region c =
    let tower = c.self.invariant in
    let regions = clear-first c.self.inside.regions tower.top c.in_err-region.ensures in
    let blocks = clear-under c.self.inside.regions c.self.inside.blocks tower.third regions in
    let words = clear-under c.self.inside.blocks c.self.inside.words tower.second blocks in
    rw (c.from_residual.ensures, ← c.self.view_is) (clear-under c.self.inside.words c.self.inside.numbers tower.first words)

pub returns-in_err-block : goal.returns-in_err-block
returns-in_err-block c =
    let tower = c.self.invariant in
    let region = IsLeast-first c.self.inside.regions c.in_ok-region.region tower.top c.in_ok-region.ensures in
    absurd (has-under c.self.inside.regions c.self.inside.blocks c.in_ok-region.region tower.third region c.in_err-block.ensures)

pub returns-in_err-word : goal.returns-in_err-word
returns-in_err-word c =
    let tower = c.self.invariant in
    let region = IsLeast-first c.self.inside.regions c.in_ok-region.region tower.top c.in_ok-region.ensures in
    let block = IsLeast-under c.self.inside.regions c.self.inside.blocks c.in_ok-region.region c.in_ok-block.block tower.third region c.in_ok-block.ensures in
    absurd (has-under c.self.inside.blocks c.self.inside.words c.in_ok-block.block tower.second block c.in_err-word.ensures)

pub returns : goal.returns
returns c =
    let tower = c.self.invariant in
    let region = IsLeast-first c.self.inside.regions c.in_ok-region.region tower.top c.in_ok-region.ensures in
    let block = IsLeast-under c.self.inside.regions c.self.inside.blocks c.in_ok-region.region c.in_ok-block.block tower.third region c.in_ok-block.ensures in
    let word = IsLeast-under c.self.inside.blocks c.self.inside.words c.in_ok-block.block c.in_ok-word.word tower.second block c.in_ok-word.ensures in
    subst (λ bits. MatchOption c.lowest-4.result ((n : ℕ) → bit bits n ≡ false) (λ n. IsLeast bits n)) c.self.view_is
    (IsLeast-found c.self.inside.words c.self.inside.numbers c.in_ok-word.word c.lowest-4.result tower.first word c.lowest-4.ensures)
