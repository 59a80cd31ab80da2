use Rattle.bts_report.proofs.command_words.add_command.Goals as goal

pub returns-in-PutContainer : goal.returns-in-PutContainer
returns-in-PutContainer c = rw c.in-PutContainer.is c.add_named-in-PutContainer.ensures

pub returns-in-GetContainer : goal.returns-in-GetContainer
returns-in-GetContainer c = rw c.in-GetContainer.is c.add_named-in-GetContainer.ensures

pub returns-in-DeleteContainer : goal.returns-in-DeleteContainer
returns-in-DeleteContainer c = rw c.in-DeleteContainer.is c.add_named-in-DeleteContainer.ensures
