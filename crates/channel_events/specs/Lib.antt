pub mod AcceptedOrder
pub mod Marks
pub mod OrderSteps
pub mod RequestSteps
pub mod Requests
pub mod SecretOrder
pub mod Seeds
