-- A step takes the plain run on, accepted or refused.
use Rattle.std.proofs.Common.{◌<◌, ◌≤◌, List, length, Err}
use Rattle.merge.specs.Rules.{Meaning, Lawful}
use Rattle.network.specs.Net.{Net}
use Rattle.newell.specs.declared.records.StepRow.{StepRow}
use Rattle.newell.specs.History.{step, told, refused}
use Rattle.newell.specs.Now.{RunNow, Carries}
use Rattle.newell.proofs.Carried.{step_carries}
use Rattle.newell.proofs.Telling.{few_rows, too_late}
use Rattle.step.specs.Steps.{Stepped}
use Rattle.run.specs.Stores.{StepJudged, number}
use Rattle.run.specs.declared.store.Refusal.{Refusal}
use Rattle.run.specs.declared.store.Refusal.TheVariants.{SmallArea, NoEntrance, NoExit, Unserved, BadCount, NoPlace, Late, NoLink, FewRows}

pub accepted : (net : Net) (r : RunNow) (m : Meaning) (rows : List StepRow) → Lawful m → (r' : RunNow) (m' : Meaning) (rows' : List StepRow)
    → Stepped net r m rows r' m' rows' → net.links ≤ length rows → r.clock < 1000000 → Carries net r (step m rows (told tt) m' rows') r'
accepted net r m rows lawful r' m' rows' s l t = step_carries net r r' m m' rows rows' s.out s.passes s.moved s.filled s.asked l t lawful

pub turned_away : (net : Net) (r : RunNow) (m : Meaning) (rows : List StepRow) (q : Refusal)
    → StepJudged net r.clock (length rows) (Err q) → Carries net r (step m rows (refused (number q)) m rows) r
turned_away net r m rows FewRows l = few_rows net r m rows l
turned_away net r m rows Late l = too_late net r m rows l.0 l.1
turned_away net r m rows SmallArea l = absurd l
turned_away net r m rows NoEntrance l = absurd l
turned_away net r m rows NoExit l = absurd l
turned_away net r m rows Unserved l = absurd l
turned_away net r m rows BadCount l = absurd l
turned_away net r m rows NoPlace l = absurd l
turned_away net r m rows NoLink l = absurd l
