-- What a member takes, keeps, asks for and sends at one step.
pub mod CallKeptLaws
pub mod CallLogonLaws
pub mod KeptLogonLaws
pub mod LinkBytesLaws
pub mod RequestOrderLaws
pub mod RestLaws
pub mod SameLogonLaws
pub mod TurnAnswerLaws
pub mod TurnHeardLaws
pub mod TurnRequestLaws
pub mod TurnUnitLaws
pub mod UnservedLaws
