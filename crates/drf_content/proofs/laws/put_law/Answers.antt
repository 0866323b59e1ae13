use Rattle.drf_content.proofs.theorems.Back.{client_is_put_back, clients_can_be_back}
use Rattle.drf_content.proofs.theorems.Put.{content_of-begun, content_of-with_row}
use Rattle.drf_content.proofs.laws.put_law.Goals as goal

pub returns-clause-head : goal.returns-clause-head
returns-clause-head c = content_of-begun

pub returns-clause-row : goal.returns-clause-row
returns-clause-row c = content_of-with_row

pub returns-clause-client : goal.returns-clause-client
returns-clause-client c = client_is_put_back

pub returns-clause-clients : goal.returns-clause-clients
returns-clause-clients c = clients_can_be_back
