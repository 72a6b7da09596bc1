use Rattle.number_form.proofs.BorrowSaveLawful.{borrow_save_lawful}
use Rattle.number_form.proofs.borrow_save.BorrowSaveNumberForm.lawful.Goals as goal

pub returns : goal.returns
returns c = borrow_save_lawful
