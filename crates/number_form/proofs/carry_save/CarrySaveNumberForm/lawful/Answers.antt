use Rattle.number_form.proofs.CarrySaveLawful.{carry_save_lawful}
use Rattle.number_form.proofs.carry_save.CarrySaveNumberForm.lawful.Goals as goal

pub returns : goal.returns
returns c = carry_save_lawful
