-- The rule that a file names.
use Rattle.merge.specs.declared.choice.Choice.{Choice}
use Rattle.merge.specs.declared.choice.Choice.TheVariants.{Fair, Ramp, Zip}
use Rattle.merge.specs.declared.choice.Chosen.{Chosen}
use Rattle.merge.specs.declared.choice.Chosen.TheVariants.{ByFair, ByRamp, ByZip}
use Rattle.merge.specs.Rules.{Meaning}
use Rattle.merge.specs.Sharing.{fair_meaning}
use Rattle.merge.specs.Ramps.{ramp_meaning}
use Rattle.merge.specs.Turns.{zip_meaning, turns_of, new_zip}

-- What a new rule means.
abbrev pub fresh_meaning : Choice → Meaning
fresh_meaning Fair = fair_meaning
fresh_meaning Ramp = ramp_meaning
fresh_meaning Zip = new_zip

-- What a rule means wherever it stands.
abbrev pub chosen_meaning : Chosen → Meaning
chosen_meaning (ByFair x) = fair_meaning
chosen_meaning (ByRamp x) = ramp_meaning
chosen_meaning (ByZip x) = zip_meaning (turns_of x.turns.at)
